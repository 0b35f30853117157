use Rattle.std.proofs.Common.{sym, subst}
use Rattle.std.proofs.lemmas.Result.{err_from_is_err_and}
use Rattle.meter.specs.declared.question.Question.TheVariants.{Value}
use Rattle.scan.specs.Standing.{state_in}
use Rattle.delivery.specs.Deliveries.{StandsIn, value_in, need_of}
use Rattle.world.specs.Standing.{world_in}
use Rattle.calls.proofs.Endings.{numbers_left, not_ended, ended, ended_with_number}
use Rattle.calls.proofs.ending.end_call.Goals as goal

pub write_value-requires-clause-stands : goal.write_value-requires-clause-stands
write_value-requires-clause-stands g c =
    subst (λ d. StandsIn d c.args.ready.plan.value) (sym c.environment.ensures.dictionary) (c.requires.may_end (world_in g.K.Reader c.args.world.now)).stands

pub returns-in_err-write_value-clause-ends : goal.returns-in_err-write_value-clause-ends
returns-in_err-write_value-clause-ends g c = λ name w.
    let p = err_from_is_err_and c.from_residual.result c.from_residual.ensures.1 in
    rw (p.1, p.2)
    (not_ended g.K.Reader g.C.Code.meaning c.args.world.now c.environment.result c.environment.ensures.store c.environment.ensures.library c.args.texts.now c.args.roll.now c.args.meter.now c.write_value.new.meter c.args.ready c.breaks.result c.breaks.ensures name w _ _
    (c.in_err-write_value.ensures.asks w) c.in_err-write_value.ensures.undone c.write_value.ensures.same_area)

pub perform-requires-clause-may : goal.perform-requires-clause-may
perform-requires-clause-may g c =
    let w = world_in g.K.Reader c.args.world.now in
    let s = state_in c.args.texts.now c.args.roll.now w in
    rw (c.parameters.ensures c.breaks.result s (value_in g.C.Code.meaning c.environment.result c.args.ready.plan.value s) (c.in_ok-write_value.ensures.written c.breaks.result w (c.of_call-delivery.ensures w)))
    (c.requires.may_end w).may

pub perform-requires-clause-room : goal.perform-requires-clause-room
perform-requires-clause-room g c =
    let w = world_in g.K.Reader c.args.world.now in
    let s = state_in c.args.texts.now c.args.roll.now w in
    rw (c.parameters.ensures c.breaks.result s (value_in g.C.Code.meaning c.environment.result c.args.ready.plan.value s) (c.in_ok-write_value.ensures.written c.breaks.result w (c.of_call-delivery.ensures w)))
    (c.requires.may_end w).room

pub take_number-requires : goal.take_number-requires
take_number-requires g c =
    let w = world_in g.K.Reader c.args.world.now in
    let s = state_in c.args.texts.now c.args.roll.now w in
    numbers_left Value (need_of (value_in g.C.Code.meaning c.environment.result c.args.ready.plan.value s) s) c.args.meter.now c.write_value.new.meter (c.in_ok-write_value.ensures.asks w) ((c.requires.may_end w).number_left c.if-ready.true)

pub returns-then-ready-clause-ends : goal.returns-then-ready-clause-ends
returns-then-ready-clause-ends g c = λ name w.
    let s = state_in c.args.texts.now c.args.roll.now w in
    let value = value_in g.C.Code.meaning c.environment.result c.args.ready.plan.value s in
    let written = c.in_ok-write_value.ensures.written c.breaks.result w (c.of_call-delivery.ensures w) in
    ended_with_number g.K.Reader g.C.Code.meaning c.args.world.now c.environment.result c.environment.ensures.store c.environment.ensures.library c.args.texts.now c.args.roll.now c.args.meter.now c.write_value.new.meter c.args.ready c.breaks.result c.breaks.ensures name w
    (c.in_ok-write_value.ensures.asks w) c.perform.new.world c.parameters.result (c.parameters.ensures c.breaks.result s value written) c.perform.ensures.world c.write_value.new.texts c.close_call.new.texts c.close_call.new.roll (λ x. c.close_call.ensures.placed c.breaks.result s value x written)
    c.write_value.ensures.same_area c.close_call.ensures.same_area c.close_call.ensures.same_limit _ _ c.if-ready.true c.take_number.ensures.bounds c.take_number.ensures.tally

pub returns-else-ready-clause-ends : goal.returns-else-ready-clause-ends
returns-else-ready-clause-ends g c = λ name w.
    let s = state_in c.args.texts.now c.args.roll.now w in
    let value = value_in g.C.Code.meaning c.environment.result c.args.ready.plan.value s in
    let written = c.in_ok-write_value.ensures.written c.breaks.result w (c.of_call-delivery.ensures w) in
    ended g.K.Reader g.C.Code.meaning c.args.world.now c.environment.result c.environment.ensures.store c.environment.ensures.library c.args.texts.now c.args.roll.now c.args.meter.now c.write_value.new.meter c.args.ready c.breaks.result c.breaks.ensures name w
    (c.in_ok-write_value.ensures.asks w) c.perform.new.world c.parameters.result (c.parameters.ensures c.breaks.result s value written) c.perform.ensures.world c.write_value.new.texts c.close_call.new.texts c.close_call.new.roll (λ x. c.close_call.ensures.placed c.breaks.result s value x written)
    c.write_value.ensures.same_area c.close_call.ensures.same_area c.close_call.ensures.same_limit _ c.if-ready.false
