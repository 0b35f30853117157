-- What a called name means, once a name that means nothing was sought as a program.
use Rattle.std.specs.Prelude.{◌≡◌, Result, IfOk, IfSome, Option}
use Rattle.std.specs.Option.{option_map}
use Rattle.library.specs.declared.reader.Reader.{Ghosts as OfReader}
use Rattle.refusal.specs.declared.Refusal.{Refusal}
use Rattle.machine.specs.Texts.{Text, Code}
use Rattle.machine.specs.Dictionary.{look_up}
use Rattle.machine.specs.World.{calling}
use Rattle.machine.specs.Libraries.{retrieving}
use Rattle.meter.specs.declared.meter.Meter.{Meter}
use Rattle.dictionary.specs.declared.meaning.Meaning.{Meaning}
use Rattle.dictionary.specs.LookingUp.{shown, FoundAt}
use Rattle.dictionary.specs.Meant.{dictionary_in}
use Rattle.world.specs.declared.world.World.{World}
use Rattle.world.specs.Standing.{world_in}
use Rattle.calls.specs.Meeting.{MeetsWith}

-- the name means this
pub record Means {K : Type 0} (code : Code) (name : Text) (v : World K) (found : Option Meaning) : Type 0 where
  pub meaning : option_map (shown v.store.now) found ≡ look_up code (dictionary_in v.dictionary.now v.store.now) name
  pub place : IfSome found (FoundAt v.dictionary.now v.store.now name)

-- the chain of retrieval has gone on, in the world of a call of any name, and the answer is what the name means then
pub record Retrieves {K : Type 0} (reader : OfReader K) (code : Code) (name : Text) (v v' : World K) (m m' : Meter) (r : Result (Option Meaning) Refusal) : Type 0 where
  pub meets : (n : Text) → MeetsWith m m' r (λ found. calling n (world_in reader v')) (calling n (world_in reader v')) (retrieving code name (calling n (world_in reader v)))
  pub means : IfOk r (Means code name v')
