use Rattle.machine.proofs.WorkedCases.{every_case}
use Rattle.machine.proofs.cases.worked_cases_hold.Goals as goal

pub returns : goal.returns
returns c = every_case
