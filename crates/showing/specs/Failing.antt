-- Why an image was not shown.
use Rattle.std.specs.Prelude.{◌≡◌, Some, None, Ok, Err, Option, Result}
use Rattle.refusal.specs.declared.Refusal.{Refusal}
use Rattle.showing.specs.declared.failure.Failure.{Failure}
use Rattle.showing.specs.declared.failure.Failure.TheVariants.{Refused, NoMemory}

-- the refusal that it failed with, if it was refused
abbrev pub refused_part : {T : Type 0} → Result T Failure → Option Refusal
refused_part (Ok x) = None
refused_part (Err (Refused r)) = Some r
refused_part (Err NoMemory) = None

-- the failure is this refusal, or want of memory
abbrev pub FailedBy : Failure → Option Refusal → Type 0
FailedBy (Refused r) refusal = refusal ≡ Some r
FailedBy NoMemory refusal = Unit {0}

-- it fails with exactly this refusal, if there is one, or for want of memory
abbrev pub FailsBy : {T : Type 0} → Result T Failure → Option Refusal → Type 0
FailsBy (Ok x) refusal = refusal ≡ None
FailsBy (Err failure) refusal = FailedBy failure refusal
