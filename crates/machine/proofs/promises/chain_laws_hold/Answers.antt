use Rattle.machine.proofs.Walking.{walk_of_bind, needs_never_fall, needs_stay_within}
use Rattle.machine.proofs.OneCall.{reported_within}
use Rattle.machine.proofs.promises.chain_laws_hold.Goals as goal

pub returns : goal.returns
returns c =
    record {
      bind = λ x y b t r f. walk_of_bind b f t r;
      rising = λ x. needs_never_fall;
      within = λ x. needs_stay_within;
      reported = reported_within;
    }
