-- The machine's call that has passed its questions but the last, as it stands in code.
use Rattle.std.specs.Prelude.{◌≡◌, ℕ, ◌<◌, true, List, Result, IfOk}
use Rattle.library.specs.declared.reader.Reader.{Ghosts as OfReader}
use Rattle.refusal.specs.declared.Refusal.{Refusal}
use Rattle.machine.specs.Texts.{Text, Code}
use Rattle.machine.specs.Chain.{Run}
use Rattle.machine.specs.World.{World, Ready, calling}
use Rattle.meter.specs.declared.meter.Meter.{Meter}
use Rattle.delivery.specs.Deliveries.{StandsIn}
use Rattle.value.specs.Texts.{value_text}
use Rattle.plan.specs.Effects.{performed, asks_of, placed_by, May}
use Rattle.world.specs.declared.world.World as processor
use Rattle.world.specs.Standing.{world_in, HasRoomFor}
use Rattle.calls.specs.declared.ready_call.ReadyCall.{ReadyCall}
use Rattle.calls.specs.Meeting.{MeetsWith}

module _ {K : Type 0} (reader : OfReader K) (code : Code) (ps : List Text) where
  -- what is ready, in the machine's world w
  abbrev pub ready_of : processor.World K → World → ReadyCall → Ready
  ready_of v w r = record {
    result = placed_by r.plan.effect (value_text code ps v.store.now (reader.meaning v.library.now) r.plan.value);
    after = performed code ps v.store.now r.plan.effect w;
    kept = w;
    numbered = r.numbered;
  }

  -- it can be ended, where so many numbers are created
  pub record MayEnd (v : processor.World K) (created : ℕ) (r : ReadyCall) : Type 0 where
    pub stands : StandsIn v.dictionary.now r.plan.value
    pub may : May code ps v.dictionary.now v.store.now (reader.meaning v.library.now) r.plan.effect
    pub room : HasRoomFor v (asks_of r.plan.effect) (performed code ps v.store.now r.plan.effect (world_in reader v))
    pub number_left : r.numbered ≡ true → created < 9999

  -- a call is made ready as a chain does it, under whichever name
  pub record Readies (run : World → Run World Ready) (v v' : processor.World K) (m m' : Meter) (r : Result ReadyCall Refusal) : Type 0 where
    pub meets : (n : Text) → MeetsWith m m' r (ready_of v' (calling n (world_in reader v'))) (calling n (world_in reader v')) (run (calling n (world_in reader v)))
    pub may_end : IfOk r (MayEnd v' m'.created)
