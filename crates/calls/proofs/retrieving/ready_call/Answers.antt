use Rattle.std.proofs.Common.{[]}
use Rattle.std.proofs.lemmas.Result.{err_from_is_err_and}
use Rattle.calls.proofs.Names.{call_goes_on, call_stops, still_ready, undefined_stops}
use Rattle.calls.proofs.retrieving.ready_call.Goals as goal

pub returns-in_err-function-clause-readies : goal.returns-in_err-function-clause-readies
returns-in_err-function-clause-readies g c =
    let p = err_from_is_err_and c.from_residual.result c.from_residual.ensures.1 in
    rw (p.1, p.2) (call_stops g.K.Reader g.C.Code.meaning c.args.name.now c.args.world.now c.retrieve.new.world c.args.meter.now c.retrieve.new.meter c.args.parameters.now _ c.in_err-function.ensures.retrieves)

pub ready_built_in-requires : goal.ready_built_in-requires
ready_built_in-requires g c = record { ready = still_ready g.K.Reader c.args.world.now c.retrieve.new.world c.args.meter.now.bounds c.retrieve.new.meter.bounds c.retrieve.ensures.memory (c.retrieve.ensures.retrieves.meets []).bounds_stay c.requires.ready }

pub returns-in-Some-BuiltIn-clause-readies : goal.returns-in-Some-BuiltIn-clause-readies
returns-in-Some-BuiltIn-clause-readies g c =
    call_goes_on g.K.Reader g.C.Code.meaning c.args.name.now c.args.world.now c.retrieve.new.world c.args.meter.now c.retrieve.new.meter c.args.parameters.now _ c.in_ok-function.ensures.retrieves _ _ _ (rw (c.in-Some-BuiltIn.is, c.in-Some-BuiltIn.field-0-is) c.ready_built_in.ensures.readies)

pub returns-in-Some-String-clause-readies : goal.returns-in-Some-String-clause-readies
returns-in-Some-String-clause-readies g c =
    call_goes_on g.K.Reader g.C.Code.meaning c.args.name.now c.args.world.now c.retrieve.new.world c.args.meter.now c.retrieve.new.meter c.args.parameters.now _ c.in_ok-function.ensures.retrieves _ _ _ (rw (c.in-Some-String.is, c.in-Some-String.field-0-is) c.ready_string.ensures)

pub returns-in-None-clause-readies : goal.returns-in-None-clause-readies
returns-in-None-clause-readies g c =
    call_goes_on g.K.Reader g.C.Code.meaning c.args.name.now c.args.world.now c.retrieve.new.world c.args.meter.now c.retrieve.new.meter c.args.parameters.now _ c.in_ok-function.ensures.retrieves _ _ _ (rw c.in-None.is (undefined_stops g.K.Reader _ _ _ _))
