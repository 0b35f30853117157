use Rattle.machine.proofs.WorkedExamples.{every_example}
use Rattle.machine.proofs.cases.worked_examples_hold.Goals as goal

pub returns : goal.returns
returns c = every_example
