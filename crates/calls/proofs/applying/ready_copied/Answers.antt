use Rattle.std.proofs.lemmas.Result.{err_from_is_err_and}
use Rattle.machine.specs.declared.built_in.BuiltIn.TheVariants.{Library}
use Rattle.machine.specs.declared.built_in.LibraryFunction.TheVariants.{Copy}
use Rattle.machine.specs.Functions.{apply}
use Rattle.calls.proofs.Calling.{copied_passes, copied_stops}
use Rattle.calls.proofs.applying.ready_copied.Goals as goal

pub returns-in_err-copy_program-clause-readies : goal.returns-in_err-copy_program-clause-readies
returns-in_err-copy_program-clause-readies g c =
    let p = err_from_is_err_and c.from_residual.result c.from_residual.ensures.1 in
    rw (p.1, p.2) (copied_stops g.K.Reader g.C.Code.meaning c.args.parameters.now (apply g.C.Code.meaning (Library Copy) c.args.parameters.now) c.args.world.now c.copy_program.new.world c.args.meter.now c.copy_program.new.meter _ c.in_err-copy_program.ensures.meets)

pub returns-clause-readies : goal.returns-clause-readies
returns-clause-readies g c =
    rw c.of_value.ensures (copied_passes g.K.Reader g.C.Code.meaning c.args.parameters.now (apply g.C.Code.meaning (Library Copy) c.args.parameters.now) c.args.world.now c.copy_program.new.world c.args.meter.now c.copy_program.new.meter _ c.in_ok-copy_program.ensures.meets)
