use Rattle.std.proofs.Common.{refl, arith}
use Rattle.value.specs.declared.value.Value.TheVariants.{Nothing}
use Rattle.selection_plans.proofs.OfString.{stopped, then_moves}
use Rattle.selection_plans.proofs.ends.reset_pointer.Goals as goal

pub returns-in_err-string : goal.returns-in_err-string
returns-in_err-string g c = stopped c.args.sources.now _ _ _ _ c.in_err-string.ensures.string c.from_residual.ensures.1

pub returns : goal.returns
returns g c =
    then_moves c.args.sources.now 0 c.in_ok-string.string 0 Nothing c.of_effect.result _ c.in_ok-string.ensures.string c.in_ok-string.ensures.place (omega arith) tt c.of_effect.ensures (λ w. refl)
