use Rattle.selection.proofs.Leveled.{Passed}
use Rattle.selection.proofs.levels.zero_level.Given as goal

abbrev pub invariant-loop-place : goal.invariant-loop-place
invariant-loop-place g l = Passed g.C.Code.meaning l.text l.place l.protected l.level
