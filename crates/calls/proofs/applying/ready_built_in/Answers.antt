use Rattle.std.proofs.Common.{◌≡◌, leb, length, true, sym}
use Rattle.std.proofs.lemmas.Bool.{cond-true, le-leb}
use Rattle.machine.specs.BuiltIns.{least}
use Rattle.calls.proofs.Calling.{readies_alike}
use Rattle.calls.proofs.applying.ready_built_in.Goals as goal

pub returns-clause-readies : goal.returns-clause-readies
returns-clause-readies g c =
    let enough : leb (least c.args.function) (length c.args.parameters.now) ≡ true = le-leb _ _ (rw (c.least_parameters.ensures, c.len.ensures) at c.if-len-least_parameters.false) in
    readies_alike g.K.Reader g.C.Code.meaning c.args.parameters.now _ _ (λ w. sym (cond-true _ _ _ enough)) c.args.world.now c.apply.new.world c.args.meter.now c.apply.new.meter _ c.apply.ensures.readies
