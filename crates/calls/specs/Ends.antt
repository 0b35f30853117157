-- How calls are held to the machine's.
use Rattle.std.specs.Prelude.{◌≡◌, ◌≤◌, [], Result, IfErr, length}
use Rattle.library.specs.declared.reader.Reader.{Ghosts as OfReader}
use Rattle.refusal.specs.declared.Refusal.{Refusal}
use Rattle.machine.specs.declared.amounts.Amounts.{Amounts}
use Rattle.machine.specs.Texts.{Text}
use Rattle.machine.specs.Chain.{Run}
use Rattle.machine.specs.World.{World, calling}
use Rattle.machine.specs.Scan.{State}
use Rattle.meter.specs.declared.meter.Meter.{Meter}
use Rattle.scan.specs.declared.roll.Roll.{Roll}
use Rattle.scan.specs.declared.texts.ScanTexts.{ScanTexts}
use Rattle.scan.specs.Meeting.{Meets}
use Rattle.scan.specs.Standing.{state_in}
use Rattle.scan.specs.Texts.{SameArea}
use Rattle.world.specs.declared.world.World as processor
use Rattle.world.specs.Standing.{world_in, Ready}

module _ {K : Type 0} (reader : OfReader K) where
  -- calls can be made within these bounds; the store is no larger than that of any processor
  pub record MayCall (v : processor.World K) (b : Amounts) : Type 0 where
    pub ready : Ready reader v b
    pub small : length v.store.now ≤ 32768

  -- A call has ended as a chain does, from a state. The world stands without the call's name then; what is left behind where the
  -- chain stops has it, and neither the texts nor the roll have changed.
  pub record Ends (name : Text) (run : Run World State) (v' : processor.World K) (t t' : ScanTexts) (q q' : Roll) (m m' : Meter) (r : Result (Unit {0}) Refusal) : Type 0 where
    pub meets : Meets m m' r (state_in t' q' (calling [] (world_in reader v'))) (calling name (world_in reader v')) run
    pub same_area : SameArea t t'
    pub same_limit : q'.limit ≡ q.limit
    pub undone : IfErr r (λ _. (t' ≡ t) × (q' ≡ q))
