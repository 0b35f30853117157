-- The functions that make a text of a parameter: GN FLIP TRL NORM. Assumes nothing.
use Rattle.std.specs.Prelude.{suc, List, map, reverse, length, take, drop, ℤ, pos, negsuc, Some, None, Option, nat_le}
use Rattle.machine.specs.declared.built_in.TextFunction.{TextFunction}
use Rattle.machine.specs.declared.built_in.TextFunction.TheVariants.{Gn, Flip, Trl, Norm}
use Rattle.machine.specs.Texts.{Text, Code}
use Rattle.machine.specs.Faults.{no_integer, too_many_digits}
use Rattle.machine.specs.Numbers.{Numeral, read_integer, written}
use Rattle.machine.specs.World.{World, Outcome, faults, provided, valued, p1, p2}

-- GN: the first n bytes; for a negative n all but the first of so many
abbrev pub given : ℤ → Text → Text
given (pos n) t = take n t
given (negsuc n) t = drop (suc n) t

abbrev pub give_by : Option Numeral → Text → World → Outcome
give_by None t w = faults no_integer w
give_by (Some n) t w = provided (nat_le n.digits 9) too_many_digits w (valued (given n.value t) w)

abbrev pub give_characters : Code → List Text → World → Outcome
give_characters code ps w = give_by (read_integer code (p1 ps)) (p2 ps) w

abbrev pub on_text : Code → TextFunction → List Text → World → Outcome
on_text code Gn = give_characters code
-- the last byte first
on_text code Flip = λ ps w. valued (reverse (p1 ps)) w
-- lower case
on_text code Trl = λ ps w. valued (map code.lower (p1 ps)) w
-- the number of bytes
on_text code Norm = λ ps w. valued (written code (pos (length (p1 ps)))) w
