-- What is promised of processors. Assumes nothing.
use Rattle.std.proofs.Common.{ap}
use Rattle.machine.proofs.Raising.{raising_limits}
use Rattle.machine.proofs.Needs.{reported_needs_are_exact}
use Rattle.machine.proofs.Emptied.{emptied_is_new, emptied_is_as_new}
use Rattle.machine.proofs.Finishing.{finished_unless_out_of_steps}
use Rattle.machine.proofs.Distinct.{always_distinct}
use Rattle.machine.proofs.Pointers.{always_within}
use Rattle.ttm.specs.Promises.{served, KeepersOfEqualMeaningServeAlike, PromisesHold}

serve_alike : KeepersOfEqualMeaningServeAlike
serve_alike k l same code p cs = ap (served code p cs) same

pub promises_hold : PromisesHold
promises_hold = record {
  raising = raising_limits;
  needs = reported_needs_are_exact;
  emptied = emptied_is_new;
  renewed = emptied_is_as_new;
  finished = finished_unless_out_of_steps;
  alike = serve_alike;
  distinct = always_distinct;
  within = always_within;
}
