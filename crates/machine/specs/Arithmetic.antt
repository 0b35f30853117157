-- Arithmetic: AD SU MU DV DVR ABS. Assumes nothing.
use Rattle.std.specs.Prelude.{ℕ, ◌^◌, Bool, not, ◌&&◌, List, ℤ, pos, ◌+ℤ◌, ◌-ℤ◌, ◌*ℤ◌, Some, None, Option, ◌==◌, int_div, int_rem, nat_le, nat_lt, unsigned_abs}
use Rattle.machine.specs.declared.built_in.ArithmeticFunction.{ArithmeticFunction}
use Rattle.machine.specs.declared.built_in.ArithmeticFunction.TheVariants.{Ad, Su, Mu, Dv, Dvr, Abs}
use Rattle.machine.specs.Texts.{Text, Code}
use Rattle.machine.specs.Faults.{no_integer, too_many_digits, no_quotient}
use Rattle.machine.specs.Numbers.{Numeral, read_integer, written}
use Rattle.machine.specs.World.{World, Outcome, faults, provided, valued, p1, p2}

-- two integers, of at most m and n digits
abbrev pub if_two : Option Numeral → Option Numeral → ℕ → ℕ → World → (ℤ → ℤ → Outcome) → Outcome
if_two None y m n w go = faults no_integer w
if_two (Some x) None m n w go = faults no_integer w
if_two (Some x) (Some y) m n w go = provided (nat_le x.digits m && nat_le y.digits n) too_many_digits w (go x.value y.value)

abbrev pub of_two : Code → List Text → ℕ → ℕ → World → (ℤ → ℤ → Outcome) → Outcome
of_two code ps m n w go = if_two (read_integer code (p1 ps)) (read_integer code (p2 ps)) m n w go

-- one integer, of at most n digits
abbrev pub if_one : Option Numeral → ℕ → World → (ℤ → Outcome) → Outcome
if_one None n w go = faults no_integer w
if_one (Some x) n w go = provided (nat_le x.digits n) too_many_digits w (go x.value)

-- multiples of 10^15 are dropped, and the sign stays
abbrev pub fifteen_digits : ℤ → ℤ
fifteen_digits z = int_rem z (pos (10 ^ 15))

-- is there a quotient, of at most 15 digits?
abbrev pub divides : ℤ → ℤ → Bool
divides x y = not (unsigned_abs y == 0) && nat_lt (unsigned_abs (int_div x y)) (10 ^ 15)

-- the quotient is cut toward zero, and the remainder has the sign of the dividend
abbrev pub divide : Code → List Text → World → (ℤ → ℤ → ℤ) → Outcome
divide code ps w result = of_two code ps 18 15 w (λ x y. provided (divides x y) no_quotient w (valued (written code (result x y)) w))

abbrev pub on_arithmetic : Code → ArithmeticFunction → List Text → World → Outcome
on_arithmetic code Ad = λ ps w. of_two code ps 15 15 w (λ x y. valued (written code (fifteen_digits (x +ℤ y))) w)
on_arithmetic code Su = λ ps w. of_two code ps 15 15 w (λ x y. valued (written code (fifteen_digits (x -ℤ y))) w)
on_arithmetic code Mu = λ ps w. of_two code ps 9 9 w (λ x y. valued (written code (x *ℤ y)) w)
on_arithmetic code Dv = λ ps w. divide code ps w int_div
on_arithmetic code Dvr = λ ps w. divide code ps w int_rem
on_arithmetic code Abs = λ ps w. if_one (read_integer code (p1 ps)) 15 w (λ x. valued (written code (pos (unsigned_abs x))) w)
