-- The comparisons: EQ GT LT of numbers, EQ? GT? LT? of texts. The value is one of the two last parameters. Assumes nothing.
use Rattle.std.specs.Prelude.{Bool, cond, not, ◌&&◌, List, ℤ, int_lt}
use Rattle.std.specs.Str.{bytes_eq}
use Rattle.machine.specs.declared.built_in.ComparisonFunction.{ComparisonFunction}
use Rattle.machine.specs.declared.built_in.ComparisonFunction.TheVariants.{Eq, Gt, Lt, EqText, GtText, LtText}
use Rattle.machine.specs.Texts.{Text, Code, lower_text}
use Rattle.machine.specs.Arithmetic.{of_two}
use Rattle.machine.specs.World.{World, Outcome, valued, p1, p2, p3, p4}

-- p3 if so, else p4
abbrev pub chosen : Bool → List Text → World → Outcome
chosen so ps w = valued (cond so (p3 ps) (p4 ps)) w

-- neither is less
abbrev pub equal : ℤ → ℤ → Bool
equal x y = not (int_lt x y) && not (int_lt y x)

abbrev pub compare_numbers : Code → List Text → World → (ℤ → ℤ → Bool) → Outcome
compare_numbers code ps w test = of_two code ps 15 15 w (λ x y. chosen (test x y) ps w)

abbrev pub on_comparison : Code → ComparisonFunction → List Text → World → Outcome
on_comparison code Eq = λ ps w. compare_numbers code ps w equal
on_comparison code Gt = λ ps w. compare_numbers code ps w (λ x y. int_lt y x)
on_comparison code Lt = λ ps w. compare_numbers code ps w int_lt
on_comparison code EqText = λ ps w. chosen (bytes_eq (p1 ps) (p2 ps)) ps w
on_comparison code GtText = λ ps w. chosen (lower_text code (p2 ps) (p1 ps)) ps w
on_comparison code LtText = λ ps w. chosen (lower_text code (p1 ps) (p2 ps)) ps w
