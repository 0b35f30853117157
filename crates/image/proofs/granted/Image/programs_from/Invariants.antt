use Rattle.std.proofs.Common.{◌≡◌, ◌-◌, drop}
use Rattle.image.specs.Granting.{programs_held}
use Rattle.image.specs.Programs.{programs_left}
use Rattle.image.proofs.granted.Image.programs_from.Given as goal

abbrev pub invariant-loop : goal.invariant-loop
invariant-loop l = drop (l.program - l.counter) (programs_left l.programs) ≡ drop l.program (programs_held l.self)
