use Rattle.std.proofs.Common.{◌≡◌, ◌≢◌, rules}
use Rattle.machine.specs.declared.built_in.BuiltIn.TheVariants.{Library}
use Rattle.machine.specs.declared.built_in.LibraryFunction.TheVariants.{Copy}
use Rattle.calls.proofs.Calling.{comes_to_outcome, readies_alike}
use Rattle.calls.proofs.applying.apply.Goals as goal

pub returns-in-Library-Copy-clause-readies : goal.returns-in-Library-Copy-clause-readies
returns-in-Library-Copy-clause-readies g c =
    let is_copy : c.in-Library-Copy.field-0 ≡ Copy = rw c.in-Library-Copy.is at c.in-Library-Copy.field-0-is in
    rw (c.in-Library-Copy.is, is_copy) c.ready_copied.ensures.readies

pub returns-in_default-clause-readies : goal.returns-in_default-clause-readies
returns-in_default-clause-readies g c =
    let other : c.args.function ≢ Library Copy = search rules in
    readies_alike g.K.Reader g.C.Code.meaning c.args.parameters.now _ _ (comes_to_outcome g.C.Code.meaning c.args.function c.args.parameters.now other) c.args.world.now c.ready_planned.new.world c.args.meter.now c.ready_planned.new.meter _ c.ready_planned.ensures.readies
