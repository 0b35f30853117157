use Rattle.std.proofs.Common.{rules, sym, subst, drop}
use borrow.Author.Tests.{tests}
use Rattle.std.proofs.lemmas.Iterator.{first_from_Range}
use Rattle.scan.specs.Running.{ByLast, ByAnother, PlainRun}
use Rattle.scan.proofs.Runs.{run_found}
use Rattle.scan.proofs.running.plain_run.Goals as goal

pub returns : goal.returns
returns g c =
    let code = g.C.Code.meaning in
    let right = c.args.right.now in
    let first = first_from_Range _ _ _ _ (λ k. ByAnother code c.args.inside (drop k right)) (λ k. ByLast code c.args.inside (drop k right)) c.find.ensures.ran (λ x q k. search (rules, tests)) (λ x q k. search (rules, tests)) in
    subst (PlainRun code c.args.inside right) (sym c.unwrap_or.ensures) (run_found code c.args.inside right c.find.result first)
