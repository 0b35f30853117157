use Rattle.std.proofs.Common.{[], refl}
use Rattle.std.proofs.lemmas.Result.{err_from_is_err_and}
use Rattle.class_plans.proofs.Passed.{no_run, run_passed}
use Rattle.class_plans.proofs.passing.plan_skip.Goals as goal

pub returns-in_err-run : goal.returns-in_err-run
returns-in_err-run g c =
    let p = err_from_is_err_and c.from_residual.result c.from_residual.ensures.1 in
    rw (p.1, p.2) (no_run c.args.sources.now (λ b. []) _ c.in_err-run.ensures.run)

pub returns : goal.returns
returns g c = rw c.passed.ensures (run_passed c.args.sources.now (λ b. []) c.in_ok-run.run' _ c.in_ok-run.ensures.place tt c.in_ok-run.ensures.run refl)
