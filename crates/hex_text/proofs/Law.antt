-- What is written in hex reads back.
use Rattle.std.proofs.Common.{◌≡◌, ℕ, ◌/◌, ◌%◌, ◌<◌, [], ◌∷◌, Some, refl, ap, arith}
use Rattle.hex_text.specs.Hex.{digit_value, two_digits, digit_of, ReadsBack}
use Rattle.std.proofs.lemmas.Bool.Decides.{nat_tests}

digit_back : (d : ℕ) → d < 16 → digit_value (digit_of d) ≡ Some d
digit_back d h = grind (arith, nat_tests)

byte_back : (b : ℕ) → b < 256 → two_digits (digit_value (digit_of (b / 16))) (digit_value (digit_of (b % 16))) ≡ Some b
byte_back b h = rw (digit_back (b / 16) (omega arith), digit_back (b % 16) (omega arith)) (ap (λ (n : ℕ). Some n) (omega arith))

pub reads_back : ReadsBack
reads_back [] h = refl
reads_back (b ∷ bs) h = rw (byte_back b h.0, reads_back bs h.1) refl
