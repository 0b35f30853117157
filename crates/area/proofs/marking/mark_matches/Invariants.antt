use Rattle.std.proofs.Common.{length, ◌-◌}
use Rattle.area.proofs.Marks.{MarkedSoFar}
use Rattle.area.proofs.marking.mark_matches.Given as goal

abbrev pub invariant-loop-read : goal.invariant-loop-read
invariant-loop-read l = MarkedSoFar l.sought l.mark l.initial.text l.text l.read l.len l.matches

abbrev pub decreases-loop-read : goal.decreases-loop-read
decreases-loop-read l = length l.initial.text - l.read
