-- Why an expansion stopped, by its number. Assumes nothing.
use Rattle.std.proofs.Common.{◌≡◌, arith}
use Rattle.refusal.specs.Numbers.{number_of}
use Rattle.machine.specs.Faults.{Question, shortage, FaultsAreNoShortages}
use Rattle.machine.specs.Chain.{steps, kind}

pub faults_are_no_shortages : FaultsAreNoShortages
faults_are_no_shortages f q e = grind arith

-- a shortage of steps has the number 14
pub steps_number : (q : Question) → kind q ≡ steps → number_of (shortage q) ≡ 14
steps_number q e = grind arith
