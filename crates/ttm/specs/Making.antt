-- Why no processor is made. Assumes nothing.
use Rattle.std.specs.Prelude.{◌≡◌, Some, None}
use Rattle.machine.specs.declared.amounts.Limits.{Limits}
use Rattle.machine.specs.Calls.{make_refusal}
use Rattle.ttm.specs.declared.make_error.MakeError.{MakeError}
use Rattle.ttm.specs.declared.make_error.MakeError.TheVariants.{Refused, NoMemory}

-- a limit is refused, or all are granted and memory is wanting
abbrev pub Fails : Limits → MakeError → Type 0
Fails limits (Refused r) = make_refusal limits ≡ Some r
Fails limits NoMemory = make_refusal limits ≡ None
