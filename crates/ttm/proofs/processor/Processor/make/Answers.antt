use Rattle.ttm.proofs.Promised.{promises_hold}
use Rattle.ttm.proofs.processor.Processor.make.Goals as goal

pub returns-in_err-map_err-clause-promises : goal.returns-in_err-map_err-clause-promises
returns-in_err-map_err-clause-promises g c = promises_hold

pub returns-clause-promises : goal.returns-clause-promises
returns-clause-promises g c = promises_hold
