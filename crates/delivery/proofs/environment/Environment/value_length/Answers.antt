use Rattle.delivery.proofs.Worlds.{some_world}
use Rattle.delivery.proofs.environment.Environment.value_length.Goals as goal

pub returns : goal.returns
returns g c = rw (← c.parameters-parameters.ensures some_world) c.len.ensures
