-- The results of the arithmetic functions. Assumes nothing.
use Rattle.std.specs.Prelude.{ℕ, ℤ, pos, ◌+ℤ◌, ◌-ℤ◌, ◌*ℤ◌, int_div, int_rem, unsigned_abs}
use Rattle.machine.specs.declared.built_in.ArithmeticFunction.{ArithmeticFunction}
use Rattle.machine.specs.declared.built_in.ArithmeticFunction.TheVariants.{Ad, Su, Mu, Dv, Dvr, Abs}
use Rattle.machine.specs.Texts.{Text, Code}
use Rattle.machine.specs.Numbers.{read_integer}
use Rattle.machine.specs.Arithmetic.{if_two, if_one, fifteen_digits}
use Rattle.number.specs.Results.{Attempt, paired, dividing}

-- in a code, the integers that two texts are, of at most m and n digits
abbrev pub two_integers : Code → Text → Text → ℕ → ℕ → Attempt (ℤ × ℤ)
two_integers code first second m n = paired (if_two (read_integer code first) (read_integer code second) m n)

-- the integer that a text is, of at most n digits
abbrev pub one_integer : Code → Text → ℕ → Attempt ℤ
one_integer code first n = if_one (read_integer code first) n

-- the result of a function at its first two parameters
abbrev pub result_of : Code → ArithmeticFunction → Text → Text → Attempt ℤ
result_of code Ad first second w go = two_integers code first second 15 15 w (λ v. go (fifteen_digits (v.0 +ℤ v.1)))
result_of code Su first second w go = two_integers code first second 15 15 w (λ v. go (fifteen_digits (v.0 -ℤ v.1)))
result_of code Mu first second w go = two_integers code first second 9 9 w (λ v. go (v.0 *ℤ v.1))
result_of code Dv first second w go = two_integers code first second 18 15 w (λ v. dividing v.0 v.1 int_div w go)
result_of code Dvr first second w go = two_integers code first second 18 15 w (λ v. dividing v.0 v.1 int_rem w go)
result_of code Abs first second w go = one_integer code first 15 w (λ x. go (pos (unsigned_abs x)))
