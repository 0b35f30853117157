-- How large an integer of so many digits is.
use Rattle.std.proofs.Common.{◌≡◌, ℕ, ◌<◌, ◌≤◌, ◌^◌, ◌==◌, Bool, true, false, [], ◌∷◌, length, ℤ, pos, neg_ℤ, Some, None, refl, subst, zero, suc, arith, lit<, unsigned_abs}
use Rattle.std.specs.Prelude.{Option}
use Rattle.std.specs.Option.{option_map}
use Rattle.std.proofs.lemmas.Bool.{cond_both}
use Rattle.std.proofs.lemmas.Option.{none-some, same_Some}
use Rattle.std.proofs.Math.Nat.{pow-le-pow_right}
use Rattle.machine.specs.Texts.{Text, Code}
use Rattle.machine.specs.Numbers.{Numeral, numeral, read_digits, read_integer}
use Rattle.number.proofs.Digits.{read_digits-below}

-- the value of this integer, if there is one, is below that power of ten
abbrev Small : Option Numeral → Type 0
Small o = (n : Numeral) → o ≡ Some n → unsigned_abs n.value < 10 ^ n.digits

behind-Small : (code : Code) (signs : Bool) (ds : Text) (value : ℕ → ℤ) → ((m : ℕ) → unsigned_abs (value m) ≡ m)
    → (o : Option ℕ) → ((m : ℕ) → o ≡ Some m → m < 10 ^ length ds) → Small (option_map (λ m. numeral signs ds (value m)) o)
behind-Small code signs ds value size None below n e = absurd (none-some n e)
behind-Small code signs ds value size (Some m) below n e =
    let N : Numeral → Type 0 = λ n. unsigned_abs n.value < 10 ^ n.digits in
    subst N (same_Some _ _ e) (omega (arith, size m, below m refl))

unsigned_abs-neg : (m : ℕ) → unsigned_abs (neg_ℤ (pos m)) ≡ m
unsigned_abs-neg zero = refl
unsigned_abs-neg (suc m) = refl

pub read_integer-Small : (code : Code) (t : Text) → Small (read_integer code t)
read_integer-Small code [] = λ n e.
    let N : Numeral → Type 0 = λ n. unsigned_abs n.value < 10 ^ n.digits in
    subst N (same_Some _ _ e) (lit< tt)
read_integer-Small code (b ∷ bs) =
    cond_both (b == code.named 45) _ _ Small
    (λ minus. behind-Small code true bs (λ m. neg_ℤ (pos m)) unsigned_abs-neg (read_digits code bs) (read_digits-below code bs))
    (λ no_minus. cond_both (b == code.named 43) _ _ Small
    (λ plus. behind-Small code true bs pos (λ m. refl) (read_digits code bs) (read_digits-below code bs))
    (λ no_plus. behind-Small code false (b ∷ bs) pos (λ m. refl) (read_digits code (b ∷ bs)) (read_digits-below code (b ∷ bs))))

-- of at most that many digits
pub read_integer-below : (code : Code) (t : Text) (n : Numeral) (most : ℕ) → read_integer code t ≡ Some n → n.digits ≤ most → unsigned_abs n.value < 10 ^ most
read_integer-below code t n most e h = omega (arith, read_integer-Small code t n e, pow-le-pow_right {n = 10} (lit< tt) h)
