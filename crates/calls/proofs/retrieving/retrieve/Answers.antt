use Rattle.std.proofs.lemmas.Result.{err_from_is_err_and}
use Rattle.calls.proofs.Names.{sought_passes, sought_stops}
use Rattle.calls.proofs.retrieving.retrieve.Goals as goal

pub returns-in_err-retrieve_named-clause-retrieves : goal.returns-in_err-retrieve_named-clause-retrieves
returns-in_err-retrieve_named-clause-retrieves g c =
    let p = err_from_is_err_and c.from_residual.result c.from_residual.ensures.1 in
    rw (p.1, p.2) (sought_stops g.K.Reader g.C.Code.meaning c.args.name.now c.args.world.now c.retrieve_named.new.world c.args.meter.now c.retrieve_named.new.meter c.in_default.ensures _ c.in_err-retrieve_named.ensures.meets)

pub returns-clause-retrieves : goal.returns-clause-retrieves
returns-clause-retrieves g c =
    sought_passes g.K.Reader g.C.Code.meaning c.args.name.now c.args.world.now c.retrieve_named.new.world c.args.meter.now c.retrieve_named.new.meter c.in_default.ensures _ _ c.in_ok-retrieve_named.ensures.meets c.look_up-2.ensures
