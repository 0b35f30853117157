use Rattle.std.proofs.Common.{rules, FitsSigned, w64}
use Rattle.std.proofs.lemmas.Int.{to_z-of_z}
use Rattle.text_plans.proofs.Given.{gives_none, gives}
use Rattle.text_plans.proofs.giving.plan_giving.Goals as goal

pub returns-in_err-count : goal.returns-in_err-count
returns-in_err-count g c = gives_none c.args.sources.now _ _ c.from_residual.ensures.1 (rw (← c.get.ensures) c.in_err-count.ensures.comes_to)

pub returns : goal.returns
returns g c =
    let fits : FitsSigned w64 c.in_ok-count.count = search rules in
    rw (c.of_value.ensures, c.given_bytes.ensures, to_z-of_z w64 c.in_ok-count.count fits)
    (gives c.args.sources.now _ (rw (← c.get.ensures) c.in_ok-count.ensures.comes_to))
