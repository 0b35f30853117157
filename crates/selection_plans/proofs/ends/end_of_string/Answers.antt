use Rattle.std.proofs.Common.{◌≡◌, not, cond, ap, refl}
use Rattle.machine.specs.World.{p2, p3, valued, parameter}
use Rattle.machine.specs.Texts.{not_empty}
use Rattle.machine.specs.Dictionary.{rest_of}
use Rattle.dictionary.specs.Strings.{string_in}
use Rattle.value.specs.declared.value.Value.TheVariants.{Parameter}
use Rattle.selection_plans.proofs.OfString.{stopped, then_values, emptiness}
use Rattle.selection_plans.proofs.ends.end_of_string.Goals as goal
use Rattle.selection_plans.proofs.ends.end_of_string.Goals.{then-at_end, else-at_end}

pub returns-in_err-string : goal.returns-in_err-string
returns-in_err-string g c = stopped c.args.sources.now _ _ _ _ c.in_err-string.ensures.string c.from_residual.ensures.1

pub returns : goal.returns
returns g c =
    let s = c.args.sources.now in
    let rest = rest_of (string_in c.in_ok-string.string s.store.now) in
    let left : not_empty rest ≡ not c.is_empty-at_end.result = rw (← c.rest.ensures, c.is_empty-at_end.ensures) (emptiness c.rest.result.now) in
    let chosen_is : cond (not_empty rest) (p3 s.parameters.now) (p2 s.parameters.now) ≡ parameter c.if-at_end.chosen s.parameters.now =
    elim c.if-at_end.branch [ then-at_end w ↦ rw (left, w.if-at_end.true, w.chosen-is) refl | else-at_end w ↦ rw (left, w.if-at_end.false, w.chosen-is) refl ] in
    then_values s 0 c.in_ok-string.string (Parameter c.if-at_end.chosen) c.of_value.result _ c.in_ok-string.ensures.string tt c.of_value.ensures
    (λ w. ap (λ t. valued t w) chosen_is)
