-- What stands after a call that may be refused. Assumes nothing.
use Rattle.std.specs.Prelude.{Some, None, Option}
use Rattle.refusal.specs.declared.Refusal.{Refusal}

-- the new, or the old if the call was refused
abbrev pub kept_or : {X : Type 0} → Option Refusal → X → X → X
kept_or None new old = new
kept_or (Some refusal) new old = old
