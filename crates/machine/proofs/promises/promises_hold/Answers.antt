use Rattle.machine.proofs.Raising.{raising_limits}
use Rattle.machine.proofs.Needs.{reported_needs_are_exact}
use Rattle.machine.proofs.Emptied.{emptied_is_new, emptied_is_as_new}
use Rattle.machine.proofs.Finishing.{finished_unless_out_of_steps}
use Rattle.machine.proofs.Stopping.{faults_are_no_shortages}
use Rattle.machine.proofs.promises.promises_hold.Goals as goal

pub returns : goal.returns
returns c =
    record {
      raising = raising_limits;
      needs = reported_needs_are_exact;
      emptied = emptied_is_new;
      renewed = emptied_is_as_new;
      finished = finished_unless_out_of_steps;
      faults = faults_are_no_shortages;
    }
