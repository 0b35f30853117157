use Rattle.leaf_tests.proofs.Steps.{step_goes, still_reserved}
use Rattle.leaf_tests.proofs.scanning.step.Goals as goal

pub returns-clause-goes : goal.returns-clause-goes
returns-clause-goes g c =
    step_goes _ _ _ _ _ _ _ _ _ _ _ c.rule_at_front-rule.ensures.value c.is_inside.ensures c.right-2.ensures c.follow.ensures.goes

pub returns-clause-reserved : goal.returns-clause-reserved
returns-clause-reserved g c = still_reserved g.C.Code.meaning c.rule_at_front-rule.result _ _ _ _ _ _ _ c.follow.ensures.goes c.requires.reserved
