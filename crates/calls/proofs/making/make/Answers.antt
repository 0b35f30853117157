use Rattle.std.proofs.Common.{subst}
use Rattle.std.proofs.lemmas.Result.{err_from_is_err_and}
use Rattle.world.specs.Standing.{world_in}
use Rattle.calls.specs.ReadyCalls.{MayEnd}
use Rattle.calls.proofs.Made.{not_ready, ready_then}
use Rattle.calls.proofs.making.make.Goals as goal

pub end_call-requires-clause-may_end : goal.end_call-requires-clause-may_end
end_call-requires-clause-may_end g c = λ w.
    subst (λ ps. MayEnd g.K.Reader g.C.Code.meaning ps c.ready_call.new.world c.ready_call.new.meter.created c.in_ok-ready.ready) (c.parameters-parameters.ensures w) c.in_ok-ready.ensures.readies.may_end

pub returns-in_err-ready-clause-ends : goal.returns-in_err-ready-clause-ends
returns-in_err-ready-clause-ends g c =
    let w = world_in g.K.Reader c.args.world.now in
    let p = err_from_is_err_and c.from_residual.result c.from_residual.ensures.1 in
    rw (p.1, p.2)
    (not_ready g.K.Reader g.C.Code.meaning c.args.world.now c.ready_call.new.world c.args.texts.now c.args.roll.now c.args.meter.now c.ready_call.new.meter c.name-name.result.now (c.name-name.ensures w) c.parameters-parameters.result (c.parameters-parameters.ensures w) _ c.in_err-ready.ensures.readies)

pub returns-clause-ends : goal.returns-clause-ends
returns-clause-ends g c =
    let w = world_in g.K.Reader c.args.world.now in
    ready_then g.K.Reader g.C.Code.meaning c.args.world.now c.ready_call.new.world c.args.texts.now c.args.roll.now c.args.meter.now c.ready_call.new.meter c.name-name.result.now (c.name-name.ensures w) c.parameters-parameters.result (c.parameters-parameters.ensures w) c.in_ok-ready.ready tt c.in_ok-ready.ensures.readies
    c.end_call.new.world c.end_call.new.texts c.end_call.new.roll c.end_call.new.meter c.end_call.result (c.end_call.ensures.ends _ w)
