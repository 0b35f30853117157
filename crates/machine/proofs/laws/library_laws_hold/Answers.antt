use Rattle.machine.proofs.Keeping.{stored, deleted}
use Rattle.machine.proofs.laws.library_laws_hold.Goals as goal

pub returns : goal.returns
returns c = record { stored = stored; deleted = deleted }
