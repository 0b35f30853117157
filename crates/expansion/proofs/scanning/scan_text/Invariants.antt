use Rattle.std.proofs.Common.{◌-◌}
use Rattle.world.specs.Standing.{world_in, SameMemory}
use Rattle.expansion.proofs.Steps.{Under}
use Rattle.expansion.proofs.scanning.scan_text.Given as goal

-- what is left of the scan is what is left of the whole, and the maker has its memory in the same loans
abbrev pub invariant-loop-steps : goal.invariant-loop-steps
invariant-loop-steps g l =
    Under g.C.Code.meaning (world_in g.K.Reader l.initial.world) (world_in g.K.Reader l.world) l.initial.texts l.texts l.initial.roll l.roll l.initial.meter l.meter l.steps
    × SameMemory g.K.Reader l.initial.world l.world

abbrev pub decreases-loop-steps : goal.decreases-loop-steps
decreases-loop-steps g l = 1000000 - l.steps
