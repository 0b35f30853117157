use Rattle.std.proofs.Common.{rules, FitsSigned, w64}
use Rattle.std.proofs.lemmas.Int.{to_z-of_z}
use Rattle.number_plans.proofs.Results.{no_result, its_result}
use Rattle.number_plans.proofs.planning.plan_arithmetic.Goals as goal

pub returns-in_err-number : goal.returns-in_err-number
returns-in_err-number g c =
    no_result c.args.sources.now c.args.function _ _ c.from_residual.ensures.1 (rw (← c.get-first.ensures, ← c.get-second.ensures) c.in_err-number.ensures)

pub returns : goal.returns
returns g c =
    let fits : FitsSigned w64 c.in_ok-number.number = search rules in
    rw (c.of_value.ensures, to_z-of_z w64 c.in_ok-number.number fits)
    (its_result c.args.sources.now c.args.function _ (rw (← c.get-first.ensures, ← c.get-second.ensures) c.in_ok-number.ensures))
