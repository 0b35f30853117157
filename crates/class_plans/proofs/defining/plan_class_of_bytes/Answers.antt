use Rattle.machine.specs.World.{p2}
use Rattle.machine.specs.Classes.{the_bytes}
use Rattle.class_plans.proofs.Defined.{not_too_many}
use Rattle.class_plans.proofs.defining.plan_class_of_bytes.Goals as goal

pub returns : goal.returns
returns g c =
    let few = c.in_ok-ask_room.ensures (the_bytes (p2 c.args.sources.now.parameters.now)) in
    rw c.of_effect.ensures (record { stands = tt; may = few; comes = λ w sees. not_too_many c.args.sources.now (the_bytes (p2 c.args.sources.now.parameters.now)) few w sees })
