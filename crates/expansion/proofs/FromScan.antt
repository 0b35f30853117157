-- What an expansion has come to, from what its scan meets. Assumes nothing.
use Rattle.std.proofs.Common.{◌≡◌, ℕ, length, take, Ok, Err, List, sym}
use Rattle.std.proofs.lemmas.List.{length-take, take_min}
use Rattle.refusal.specs.declared.Refusal.{Refusal}
use Rattle.machine.specs.Texts.{Text, Code}
use Rattle.machine.specs.World.{World}
use Rattle.machine.specs.Scan.{State, expansion, scanning, at_start}
use Rattle.meter.specs.declared.meter.Meter.{Meter}
use Rattle.meter.specs.declared.question.Question.TheVariants.{Source}
use Rattle.meter.specs.Metered.{Passed, Short}
use Rattle.scan.specs.declared.texts.ScanTexts.{ScanTexts}
use Rattle.scan.specs.Texts.{left_of}
use Rattle.scan.specs.Meeting.{Meets}
use Rattle.scan.proofs.Meetings.{on_passed, on_short}
use Rattle.expansion.specs.Expanding.{Expands}

-- the left text begins the area
pub begins_area : (t : ScanTexts) (area left : List ℕ) → area ≡ t.area.now → left ≡ left_of t → take (length left) area ≡ left_of t
begins_area t area left same is = rw (same, is, length-take t.left t.area.now) (take_min t.left t.area.now)

module _ (code : Code) (source : Text) (w w' : World) (m : Meter) (area : List ℕ) where
  -- the source was too long
  pub not_begun : (m' : Meter) (e : Refusal) → Short Source (length source) m m' e → Expands code source w w m m' area (Err e)
  unfolding expansion
  not_begun m' e short =
      let meets = on_short Source (length source) m m' m' (Err e) (at_start source w) w w (scanning code 1000000 0 (at_start source w)) e short in
      record { bounds_stay = meets.bounds_stay; came_to = sym meets.as_defined }

  module _ (m₁ m' : Meter) (s : State) (passed : Passed Source (length source) m m₁) where
    -- the scan stopped
    pub cut_off : (e : Refusal) → Meets m₁ m' (Err e) s w' (scanning code 1000000 0 (at_start source w)) → Expands code source w w' m m' area (Err e)
    unfolding expansion
    cut_off e h =
        let meets = on_passed Source (length source) m m₁ m' (Err e) s w' w (scanning code 1000000 0 (at_start source w)) passed h in
        record { bounds_stay = meets.bounds_stay; came_to = sym meets.as_defined }

    -- it came to its end
    pub ended : (n : ℕ) → s.world ≡ w' → take n area ≡ s.left → n ≡ length s.left → Meets m₁ m' (Ok tt) s w' (scanning code 1000000 0 (at_start source w)) → Expands code source w w' m m' area (Ok n)
    unfolding expansion
    ended n world left len h =
        let meets = on_passed Source (length source) m m₁ m' (Ok tt) s w' w (scanning code 1000000 0 (at_start source w)) passed h in
        record { bounds_stay = meets.bounds_stay; came_to = record { state = s; came = sym meets.as_defined; world_is = world; left_is = left; len_is = len } }
