use Rattle.std.proofs.Common.{refl, sym, ◌∙◌}
use Rattle.std.proofs.lemmas.Result.{err_from_is_err_and}
use Rattle.calls.proofs.Calling.{planned_passes, planned_short}
use Rattle.calls.proofs.applying.ready_planned.Goals as goal

pub returns-in_err-ask-clause-readies : goal.returns-in_err-ask-clause-readies
returns-in_err-ask-clause-readies g c =
    let numbered = sym c.is_numbered.ensures ∙ c.if-not-is_numbered.false in
    let p = err_from_is_err_and c.from_residual-in_err-ask.result c.from_residual-in_err-ask.ensures.1 in
    rw (p.1, p.2) (planned_short g.K.Reader g.C.Code.meaning c.args.parameters.now _ _ _ c.in_ok-plan.ensures.plans numbered _ _ _ refl _ c.in_err-ask.ensures.meets)

pub returns-clause-readies : goal.returns-clause-readies
returns-clause-readies g c =
    let numbered = sym c.is_numbered.ensures ∙ c.if-not-is_numbered.false in
    planned_passes g.K.Reader g.C.Code.meaning c.args.parameters.now _ _ _ c.in_ok-plan.ensures.plans numbered _ _ _ refl _ c.in_ok-ask.ensures.meets c.in_ok-ask.ensures.room
