-- Numerals of the machine as code holds them. Assumes nothing.
use Rattle.std.specs.Prelude.{ℕ, ◌-◌, ◌^◌, Bool, true, false, cond, min, ℤ, pos, neg_ℤ, Some, None, Option, Ok, Err, Result, nat_le}
use Rattle.refusal.specs.declared.Refusal.{Refusal}
use Rattle.refusal.specs.declared.Refusal.TheVariants.{TooManyDigits}
use Rattle.std.specs.Option.{option_map}
use Rattle.machine.specs.Texts.{Text, Code}
use Rattle.machine.specs.Numbers.{read_digits, numeral}
use Rattle.machine.specs.Numbers as machine
use Rattle.number.specs.declared.numeral.Numeral.{Numeral}
use Rattle.number.specs.declared.reading.Sign.{Sign}
use Rattle.number.specs.declared.reading.Sign.TheVariants.{Unwritten, Plus, Minus}

-- the value is kept where at most 18 digits are written
abbrev pub held : machine.Numeral → Numeral
held n = record { signed = n.signs; digits = n.digits; value = cond (nat_le n.digits 18) (Some n.value) None }

-- the value, if at most that many digits are written
abbrev pub value_within : machine.Numeral → ℕ → Result ℤ Refusal
value_within n most = cond (nat_le n.digits most) (Ok n.value) (Err TooManyDigits)

-- the largest number of 64 bits stands for any larger one
abbrev pub capped : ℕ → ℕ
capped n = min n (2 ^ 64 - 1)

abbrev pub is_written : Sign → Bool
is_written Unwritten = false
is_written Plus = true
is_written Minus = true

-- the value of digits of value n behind a sign
abbrev pub signed_value : Sign → ℕ → ℤ
signed_value Unwritten n = pos n
signed_value Plus n = pos n
signed_value Minus n = neg_ℤ (pos n)

-- digits behind a sign
abbrev pub behind : Code → Sign → Text → Option machine.Numeral
behind code sign digits = option_map (λ n. numeral (is_written sign) digits (signed_value sign n)) (read_digits code digits)
