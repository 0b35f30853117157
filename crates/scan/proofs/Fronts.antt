-- The rule for a front, by its first byte. Assumes nothing.
use Rattle.std.proofs.Common.{◌≡◌, ℕ, Bool, true, false, ◌&&◌, cond, eqb, [], ◌∷◌, codes, refl, ap, ◌∙◌}
use Rattle.std.proofs.lemmas.Bool.{both_ways, ne_eqb}
use Rattle.std.specs.List.{starts_with}
use Rattle.code.specs.Meaning.{CodeLaws, named_char}
use Rattle.machine.specs.declared.rule.Rule.TheVariants.{OpenPassive, OpenActive, Other}
use Rattle.machine.specs.Texts.{Text, Code, spelled, begins}
use Rattle.machine.specs.Scan.{rule}
use Rattle.machine.proofs.Common.{itself}
use Rattle.machine.proofs.Ruling.{apart}

pub starts_begins : (p s : Text) → starts_with eqb s p ≡ begins p s
starts_begins [] s = refl
starts_begins (a ∷ p) [] = refl
starts_begins (a ∷ p) (b ∷ s) = ap (λ x. eqb a b && x) (starts_begins p s)

module _ (code : Code) (laws : CodeLaws code) where
  no_line : (c : ℕ) → named_char c ≡ true → eqb code.end_of_line (code.named c) ≡ false
  no_line c h = ne_eqb _ _ (λ e. both_ways _ laws.end_no_character (ap code.character e ∙ laws.named_character c h))

  -- a `#` opens a call, or is a byte like others
  pub by_sharp : (w : Bool) (r : Text) →
      rule code w (code.named 35 ∷ r)
      ≡ cond (begins (spelled code (codes "#<")) r) OpenPassive (cond (begins (spelled code (codes "<")) r) OpenActive Other)
  by_sharp true r =
      rw (no_line 35 refl, apart code laws 64 35 refl refl refl, itself (code.named 35), apart code laws 60 35 refl refl refl, apart code laws 59 35 refl refl refl, apart code laws 62 35 refl refl refl)
  by_sharp false r =
      rw (no_line 35 refl, apart code laws 64 35 refl refl refl, itself (code.named 35), apart code laws 60 35 refl refl refl)

  -- the same, by the tests of code
  pub behind_sharp : (w : Bool) (r : Text) (sharp less : ℕ) → sharp ≡ code.named 35 → less ≡ code.named 60 →
      rule code w (code.named 35 ∷ r)
      ≡ cond (starts_with eqb r (sharp ∷ less ∷ [])) OpenPassive (cond (starts_with eqb r (less ∷ [])) OpenActive Other)
  behind_sharp w r sharp less e f = rw (e, f, starts_begins (code.named 35 ∷ code.named 60 ∷ []) r, starts_begins (code.named 60 ∷ []) r) (by_sharp w r)
