-- How code is held to a chain of the machine. Assumes nothing.
use Rattle.std.specs.Prelude.{◌≡◌, Ok, Err, Result}
use Rattle.refusal.specs.declared.Refusal.{Refusal}
use Rattle.machine.specs.Chain.{Run, Tally, Came, gave, stopped, walk}
use Rattle.machine.specs.World.{World}
use Rattle.machine.specs.Scan.{State}
use Rattle.meter.specs.declared.meter.Meter.{Meter}
use Rattle.meter.specs.Metered.{tally}
use Rattle.scan.specs.declared.texts.ScanTexts.{ScanTexts}
use Rattle.scan.specs.declared.roll.Roll.{Roll}
use Rattle.scan.specs.Texts.{SameArea}
use Rattle.scan.specs.Standing.{state_in}

-- what came: what stands after Ok, or a refusal with what is left behind
abbrev pub came : {A : Type 0} → Result (Unit {0}) Refusal → A → World → Tally → Came World A
came (Ok u) after left t = gave after t
came (Err e) after left t = stopped e left t

-- what came is what comes along the chain, by the bounds and from the tally of the meter m; m' is the meter then
pub record Meets {A : Type 0} (m m' : Meter) (r : Result (Unit {0}) Refusal) (after : A) (left : World) (run : Run World A) : Type 0 where
  pub bounds_stay : m'.bounds ≡ m.bounds
  pub as_defined : came r after left (tally m') ≡ walk m.bounds (tally m) run

-- texts and a roll have gone on as a chain does from their state, in any world
pub record Goes (run : State → Run World State) (t t' : ScanTexts) (q q' : Roll) (m m' : Meter) (r : Result (Unit {0}) Refusal) : Type 0 where
  pub meets : (w : World) → Meets m m' r (state_in t' q' w) w (run (state_in t q w))
  pub same_area : SameArea t t'
  pub same_limit : q'.limit ≡ q.limit
