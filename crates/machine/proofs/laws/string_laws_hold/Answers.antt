use Rattle.machine.proofs.Segmenting.{parameters_return}
use Rattle.machine.proofs.laws.string_laws_hold.Goals as goal

pub returns : goal.returns
returns c = parameters_return
