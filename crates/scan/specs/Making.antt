-- A scan whose calls are made by something with a world of its own. Assumes nothing.
use Rattle.std.specs.Prelude.{◌≡◌, ◌≤◌, Result, length}
use Rattle.refusal.specs.declared.Refusal.{Refusal}
use Rattle.machine.specs.Chain.{Run}
use Rattle.machine.specs.World.{World}
use Rattle.machine.specs.Scan.{State}
use Rattle.meter.specs.declared.meter.Meter.{Meter}
use Rattle.scan.specs.declared.texts.ScanTexts.{ScanTexts}
use Rattle.scan.specs.declared.roll.Roll.{Roll}
use Rattle.scan.specs.Texts.{SameArea}
use Rattle.scan.specs.Standing.{state_in}
use Rattle.scan.specs.Meeting.{Meets}

-- the area has as many bytes as the scan may have, and the roll has memory for as many entries
pub record Fits (t : ScanTexts) (q : Roll) (m : Meter) : Type 0 where
  pub area_fits : length t.area.now ≡ m.bounds.scan
  pub roll_fits : m.bounds.roll ≤ q.limit

-- texts, roll and world have gone on as a chain does from their state
pub record GoesIn (run : State → Run World State) (w w' : World) (t t' : ScanTexts) (q q' : Roll) (m m' : Meter) (r : Result (Unit {0}) Refusal) : Type 0 where
  pub meets : Meets m m' r (state_in t' q' w') w' (run (state_in t q w))
  pub same_area : SameArea t t'
  pub same_limit : q'.limit ≡ q.limit
