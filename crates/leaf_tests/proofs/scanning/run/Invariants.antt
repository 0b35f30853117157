use Rattle.std.proofs.Common.{◌≤◌}
use Rattle.leaf_tests.proofs.scanning.run.Given as goal

-- the roll can hold all that the meter lets pass
abbrev pub invariant-loop-steps : goal.invariant-loop-steps
invariant-loop-steps g l = l.meter.bounds.roll ≤ l.roll.limit
