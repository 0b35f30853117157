-- What several proofs use: tests, and fronts of texts. Assumes nothing.
use mathlib.Core.Path.{◌≡◌, refl, sym, ap, ap₂, ◌∙◌}
use mathlib.Core.Bool.{Bool, true, false}
use mathlib.Core.List.{[], ◌∷◌, ◌++◌}
use Prim.Native.Nat.{ℕ}
use native.Mathlib.Omega.{arith}
use lib.Dec.{eqb}
use lib.ListN.{length, drop}
use Rattle.std.proofs.lemmas.Bool.{both_ways, and_parts, and_from, eqb-true, eq-eqb}
use Rattle.machine.specs.Texts.{Text, begins}

-- `cc` shows 0 ≡ 1 where two constructors would be equal
pub never : ◌≡◌ {A = ℕ} 0 1 → ⊥
never e = omega arith

pub false_from : (t : Bool) → (t ≡ true → ⊥) → t ≡ false
false_from true h = absurd (h refl)
false_from false h = refl

pub itself : (b : ℕ) → eqb b b ≡ true
itself b = eq-eqb b b refl

-- A text that begins with p is p with a rest.

pub begun : (p t : Text) → begins p t ≡ true → p ++ drop (length p) t ≡ t
begun [] t e = refl
begun (a ∷ p) [] e = absurd (never (cc))
begun (a ∷ p) (b ∷ t) e =
    let both = and_parts (eqb a b) (begins p t) e in
    ap₂ ◌∷◌ (eqb-true a b both.0) (begun p t both.1)

pub begins_with : (p t : Text) → begins p (p ++ t) ≡ true
begins_with [] t = refl
begins_with (a ∷ p) t = and_from _ _ (itself a) (begins_with p t)

pub not_begun : (p t rest : Text) → begins p t ≡ false → t ≡ p ++ rest → ⊥
not_begun p t rest e f = both_ways _ e (ap (begins p) f ∙ begins_with p rest)

pub begins_not : (p t : Text) → ((rest : Text) → t ≡ p ++ rest → ⊥) → begins p t ≡ false
begins_not p t h = false_from _ (λ e. h (drop (length p) t) (sym (begun p t e)))
