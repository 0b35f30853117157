use Rattle.std.proofs.Common.{[]}
use Rattle.delivery.proofs.Worlds.{some_world}
use Rattle.delivery.proofs.filling.write_from.Goals as goal

pub write-requires-clause-fits : goal.write-requires-clause-fits
write-requires-clause-fits g c = rw (c.parameters_in-parameters.ensures [] some_world) c.requires.fits

pub returns : goal.returns
returns g c = rw (← c.parameters_in-parameters.ensures [] some_world) c.write.ensures
