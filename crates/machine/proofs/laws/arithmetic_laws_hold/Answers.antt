use Rattle.machine.proofs.Dividing.{divides, last_digits}
use Rattle.machine.proofs.laws.arithmetic_laws_hold.Goals as goal

pub returns : goal.returns
returns c = record { divided = divides; summed = last_digits }
