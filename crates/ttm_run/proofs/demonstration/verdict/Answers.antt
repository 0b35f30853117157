use Rattle.std.proofs.Common.{sym, ap}
use Rattle.ttm_run.specs.Demonstration.{verdict}
use Rattle.ttm_run.proofs.demonstration.verdict.Goals as goal

pub returns-then-same : goal.returns-then-same
unfolding verdict
returns-then-same c = sym (ap verdict c.if-same.true)

pub returns-else-same : goal.returns-else-same
unfolding verdict
returns-else-same c = sym (ap verdict c.if-same.false)
