use Rattle.std.proofs.Common.{Ok}
use Rattle.std.proofs.lemmas.Result.{err_from_is_err_and}
use Rattle.machine.specs.Comparisons.{chosen}
use Rattle.choice_plans.proofs.Choices.{chosen_is_planned}
use Rattle.plan.proofs.Planning.{stopped_at, then_plans}
use Rattle.class_plans.specs.Reading.{beginning_read}
use Rattle.class_plans.proofs.testing.plan_test.Goals as goal

pub returns-in_err-begins : goal.returns-in_err-begins
returns-in_err-begins g c =
    let s = c.args.sources.now in
    let p = err_from_is_err_and c.from_residual.result c.from_residual.ensures.1 in
    rw (p.1, p.2) (stopped_at s (beginning_read g.C.Code.meaning s.parameters.now) (λ w so. chosen so s.parameters.now w) _ c.in_err-begins.ensures)

pub returns : goal.returns
returns g c =
    let s = c.args.sources.now in
    rw (c.of_value.ensures, c.chosen.ensures)
    (then_plans s (beginning_read g.C.Code.meaning s.parameters.now) (λ w so. chosen so s.parameters.now w) c.in_ok-begins.begins (Ok _) c.in_ok-begins.ensures (chosen_is_planned s c.in_ok-begins.begins))
