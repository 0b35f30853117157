-- The first `;` at level zero: what one more byte does.
use Rattle.std.proofs.Common.{◌≡◌, ◌≢◌, ℕ, zero, suc, pred, ◌+◌, ◌-◌, ◌<◌, ◌≤◌, Bool, true, false, ◌&&◌, eqb, ◌∷◌, length, drop, get_or, refl, sym, ap, ◌∙◌, arith}
use Rattle.std.specs.Option.{option_map}
use Rattle.std.proofs.lemmas.Bool.{eq-eqb, ne_eqb}
use Rattle.std.proofs.lemmas.List.{at_drop_more}
use Rattle.machine.specs.Texts.{Text, Code}
use Rattle.machine.specs.Selection.{zero_level}
use Rattle.selection.proofs.Places.{shifted, shifted_more}

-- The first i bytes of a text are passed, protection p and level l stand behind them, and the place is still to come.
pub record Passed (code : Code) (t : Text) (i : ℕ) (p : Bool) (l : ℕ) : Type 0 where
  pub low : l ≤ i
  pub place : shifted i (zero_level code p l (drop i t)) ≡ zero_level code false 0 t

less_one : (l : ℕ) → l - 1 ≡ pred l
less_one zero = refl
less_one (suc l) = omega arith

-- one byte more, which is not the place: q and m stand behind it
module _ {code : Code} {t : Text} {i : ℕ} {p : Bool} {l : ℕ} (so_far : Passed code t i p l) (more : i < length t) (q : Bool) (m : ℕ) where
  one_more : m ≤ l + 1 → zero_level code p l (get_or t i 0 ∷ drop (i + 1) t) ≡ option_map suc (zero_level code q m (drop (i + 1) t)) → Passed code t (i + 1) q m
  one_more low step = record {
    low = omega (arith, so_far.low);
    place = sym (ap (shifted i) (at_drop_more (zero_level code p l) t i 0 more ∙ step) ∙ shifted_more i (zero_level code q m (drop (i + 1) t))) ∙ so_far.place;
  }

  pub after_protected : p ≡ true → q ≡ false → m ≡ l → Passed code t (i + 1) q m
  after_protected on off same = one_more (omega arith) (rw (on, off, same) refl)

  module _ (off : p ≡ false) where
    pub after_at : get_or t i 0 ≡ code.named 64 → q ≡ true → m ≡ l → Passed code t (i + 1) q m
    after_at at on same = one_more (omega arith) (rw (off, on, same, eq-eqb (get_or t i 0) (code.named 64) at) refl)

    module _ (no_at : get_or t i 0 ≢ code.named 64) (still : q ≡ p) where
      pub after_less : get_or t i 0 ≡ code.named 60 → m ≡ l + 1 → Passed code t (i + 1) q m
      after_less less up =
          let one_up : m ≡ suc l = omega arith in
          one_more (omega arith) (rw (still, off, one_up, ne_eqb (get_or t i 0) (code.named 64) no_at, eq-eqb (get_or t i 0) (code.named 60) less) refl)

      module _ (no_less : get_or t i 0 ≢ code.named 60) where
        pub after_greater : get_or t i 0 ≡ code.named 62 → m ≡ l - 1 → Passed code t (i + 1) q m
        after_greater greater down =
            one_more (omega arith)
            (rw (still, off, down ∙ less_one l, ne_eqb (get_or t i 0) (code.named 64) no_at, ne_eqb (get_or t i 0) (code.named 60) no_less, eq-eqb (get_or t i 0) (code.named 62) greater) refl)

        pub after_other : get_or t i 0 ≢ code.named 62 → (eqb (get_or t i 0) (code.named 59) && eqb l 0) ≡ false → m ≡ l → Passed code t (i + 1) q m
        after_other no_greater other same =
            one_more (omega arith)
            (rw (still, off, same, ne_eqb (get_or t i 0) (code.named 64) no_at, ne_eqb (get_or t i 0) (code.named 60) no_less, ne_eqb (get_or t i 0) (code.named 62) no_greater, other) refl)
