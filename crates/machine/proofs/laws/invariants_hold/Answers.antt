use Rattle.machine.proofs.Distinct.{calls_distinct, always_distinct}
use Rattle.machine.proofs.Pointers.{calls_within, always_within}
use Rattle.machine.proofs.laws.invariants_hold.Goals as goal

pub returns : goal.returns
returns c =
    record {
      calls_distinct = calls_distinct;
      always_distinct = always_distinct;
      calls_within = calls_within;
      always_within = always_within;
    }
