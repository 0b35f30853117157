-- A list that is shown one by one: what is written, before what is left.
use Rattle.std.proofs.Common.{◌≡◌, ℕ, List, [], ◌∷◌, ◌++◌, sym, ap, ◌∙◌, append_assoc}
use Rattle.std.proofs.lemmas.Grind.{flat_map-append}
use Rattle.std.proofs.lemmas.List.{append-nil}
use Rattle.std.specs.List.{flat_map}

pub one_shown : {X : Type 0} (show : X → List ℕ) (text done : List ℕ) (left rest : List X) (x : X) → left ≡ x ∷ rest
    → done ++ flat_map show left ≡ text → (done ++ show x) ++ flat_map show rest ≡ text
one_shown show text done left rest x first so_far =
    append_assoc done (show x) (flat_map show rest) ∙ ap (λ xs. done ++ flat_map show xs) (sym first) ∙ so_far

pub all_shown : {X : Type 0} (show : X → List ℕ) (text done : List ℕ) (left : List X) → left ≡ [] → done ++ flat_map show left ≡ text → done ≡ text
all_shown show text done left none so_far = sym (append-nil done) ∙ ap (λ xs. done ++ flat_map show xs) (sym none) ∙ so_far

-- the same for several at the front
pub several_shown : {X : Type 0} (show : X → List ℕ) (text done written : List ℕ) (left several rest : List X) → left ≡ several ++ rest → written ≡ flat_map show several
    → done ++ flat_map show left ≡ text → (done ++ written) ++ flat_map show rest ≡ text
several_shown show text done written left several rest parts shown so_far =
    let whole : written ++ flat_map show rest ≡ flat_map show left = rw (shown, parts) (sym (flat_map-append show several rest)) in
    append_assoc done written (flat_map show rest) ∙ ap (λ xs. done ++ xs) whole ∙ so_far
