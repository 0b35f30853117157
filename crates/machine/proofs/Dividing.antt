-- Quotients and remainders, by the signs. Assumes nothing.
use Rattle.std.proofs.Common.{◌≡◌, ℕ, zero, suc, ◌*◌, ◌/◌, ◌%◌, ◌^◌, ◌<◌, ℤ, pos, negsuc, ◌+ℤ◌, ◌*ℤ◌, neg_ℤ, nat_abs, ◌≤ℤ◌, sym, refl, ap, ◌∙◌, mod-lt, mod-eq_of_lt, mul-zero, arith, lit<, le→leb, leb→le}
use native.Mathlib.Nat.{div-add-mod, mod-le}
use lib.IntN.{neg_ℤ-+ℤ}
use lib.Signed.{le_z_yes, quot_z, rem_z}
use Rattle.machine.specs.Arithmetic.{fifteen_digits}
use Rattle.machine.specs.Laws.{DivisionAgreesWithTheIntegers, SumsAgreeWithTheIntegers}

size_of_negative : (n : ℕ) → nat_abs (neg_ℤ (pos n)) ≡ n
size_of_negative zero = refl
size_of_negative (suc n) = refl

negative_below : (n : ℕ) → neg_ℤ (pos n) ≤ℤ pos 0
negative_below zero = le_z_yes tt
negative_below (suc n) = le_z_yes tt

positive_above : (n : ℕ) → pos 0 ≤ℤ pos n
positive_above n = le_z_yes (le→leb 0 n (omega arith))

-- a product with a negative number
times_negative : (b k : ℕ) → pos b *ℤ neg_ℤ (pos k) ≡ neg_ℤ (pos (b * k))
times_negative b zero = rw (mul-zero b)
times_negative b (suc k) = refl

negative_times_negative : (b k : ℕ) → negsuc b *ℤ neg_ℤ (pos k) ≡ pos (suc b * k)
negative_times_negative b zero = rw (mul-zero (suc b))
negative_times_negative b (suc k) = refl

-- a number is the divisor times the quotient, and the remainder; and so is its negative
parts : (a b : ℕ) → pos a ≡ pos (b * (a / b)) +ℤ pos (a % b)
parts a b = ap pos (sym (div-add-mod a b))

negative_parts : (a b : ℕ) → neg_ℤ (pos a) ≡ neg_ℤ (pos (b * (a / b))) +ℤ neg_ℤ (pos (a % b))
negative_parts a b = ap neg_ℤ (parts a b) ∙ neg_ℤ-+ℤ (pos (b * (a / b))) (pos (a % b))

whole : (x y : ℤ) → x ≡ (y *ℤ quot_z x y) +ℤ rem_z x y
whole (pos a) (pos b) = parts a b
whole (pos a) (negsuc b) = parts a (suc b) ∙ ap (λ z. z +ℤ pos (a % suc b)) (sym (negative_times_negative b (a / suc b)))
whole (negsuc a) (pos b) = negative_parts (suc a) b ∙ ap (λ z. z +ℤ neg_ℤ (pos (suc a % b))) (sym (times_negative b (suc a / b)))
whole (negsuc a) (negsuc b) = negative_parts (suc a) (suc b)

pub divides : DivisionAgreesWithTheIntegers
divides (pos a) y h =
    record {
      whole = whole (pos a) y;
      less = mod-lt a h;
      not_below = λ k. positive_above (a % nat_abs y);
      not_above = λ k. le_z_yes (le→leb _ 0 (omega (arith, mod-le a (nat_abs y), leb→le a 0 k.le)));
    }
divides (negsuc a) y h =
    record {
      whole = whole (negsuc a) y;
      less = rw (size_of_negative (suc a % nat_abs y)) (mod-lt (suc a) h);
      not_below = λ k. absurd k.le;
      not_above = λ k. negative_below (suc a % nat_abs y);
    }

digits : (z : ℤ) → nat_abs (fifteen_digits z) ≡ nat_abs z % 10 ^ 15
digits (pos a) = refl
digits (negsuc a) = size_of_negative (suc a % 10 ^ 15)

exact : (z : ℤ) → nat_abs z < 10 ^ 15 → fifteen_digits z ≡ z
exact (pos a) h = ap pos (mod-eq_of_lt h)
exact (negsuc a) h = ap (λ n. neg_ℤ (pos n)) (mod-eq_of_lt h)

pub last_digits : SumsAgreeWithTheIntegers
last_digits z =
    record {
      dropped = quot_z z (pos (10 ^ 15));
      divided = divides z (pos (10 ^ 15)) (lit< tt);
      digits = digits z;
      exact = exact z;
    }
