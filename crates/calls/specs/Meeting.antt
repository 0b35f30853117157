-- How code that answers a value is held to a chain of the machine. Assumes nothing.
use Rattle.std.specs.Prelude.{◌≡◌, Ok, Err, Result}
use Rattle.refusal.specs.declared.Refusal.{Refusal}
use Rattle.machine.specs.Chain.{Run, Tally, Came, gave, stopped, walk}
use Rattle.machine.specs.World.{World}
use Rattle.meter.specs.declared.meter.Meter.{Meter}
use Rattle.meter.specs.Metered.{tally}

-- what came: what the value stands for, or a refusal with what is left behind
abbrev pub came_with : {V A : Type 0} → Result V Refusal → (V → A) → World → Tally → Came World A
came_with (Ok v) shows left t = gave (shows v) t
came_with (Err e) shows left t = stopped e left t

-- what came is what comes along the chain, by the bounds and from the tally of the meter m; m' is the meter then
pub record MeetsWith {V A : Type 0} (m m' : Meter) (r : Result V Refusal) (shows : V → A) (left : World) (run : Run World A) : Type 0 where
  pub bounds_stay : m'.bounds ≡ m.bounds
  pub as_defined : came_with r shows left (tally m') ≡ walk m.bounds (tally m) run
