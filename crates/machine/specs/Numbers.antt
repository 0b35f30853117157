-- Decimal integers: how they are read and written. Assumes nothing.
use Rattle.std.specs.Prelude.{ℕ, ◌+◌, ◌*◌, Bool, true, false, cond, [], ◌∷◌, length, ℤ, pos, neg_ℤ, Some, None, codes, Option, ◌==◌, nat_eq}
use Rattle.std.specs.Option.{option_map, option_and_then}
use Rattle.std.specs.Fmt.{signed_decimal}
use Rattle.machine.specs.Texts.{Text, Code, spelled, first_place}

pub record Numeral : Type 0 where
  -- is a sign written?
  pub signs : Bool
  -- how many digits are written
  pub digits : ℕ
  pub value : ℤ

-- the value of a digit
abbrev pub digit : Code → ℕ → Option ℕ
digit code b = first_place (λ d. nat_eq d b) (spelled code (codes "0123456789"))

-- the value of digits that follow those of value v
abbrev pub digits_from : Code → ℕ → Text → Option ℕ
digits_from code v [] = Some v
digits_from code v (b ∷ bs) = option_and_then (λ d. digits_from code (v * 10 + d) bs) (digit code b)

-- at least one digit
abbrev pub read_digits : Code → Text → Option ℕ
read_digits code [] = None
read_digits code (b ∷ bs) = digits_from code 0 (b ∷ bs)

abbrev pub numeral : Bool → Text → ℤ → Numeral
numeral signs digits value = record { signs = signs; digits = length digits; value = value }

-- a decimal integer: nothing, which is 0; or a sign, which may be left out, and at least one digit
abbrev pub read_integer : Code → Text → Option Numeral
read_integer code [] = Some (numeral false [] (pos 0))
read_integer code (b ∷ bs) =
    cond (b == code.named 45) (option_map (λ n. numeral true bs (neg_ℤ (pos n))) (read_digits code bs))
    (cond (b == code.named 43) (option_map (λ n. numeral true bs (pos n)) (read_digits code bs))
    (option_map (λ n. numeral false (b ∷ bs) (pos n)) (read_digits code (b ∷ bs))))

-- without leading zeros; a minus sign before a negative one
abbrev pub written : Code → ℤ → Text
written code z = spelled code (signed_decimal z)
