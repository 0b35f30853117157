-- What an expansion has come to. Assumes nothing.
use Rattle.std.specs.Prelude.{◌≡◌, ◌≤◌, ℕ, List, length, take, Ok, Err, Result}
use Rattle.refusal.specs.declared.Refusal.{Refusal}
use Rattle.machine.specs.Texts.{Text, Code}
use Rattle.machine.specs.Chain.{Tally, Came, gave, stopped, walk}
use Rattle.machine.specs.World.{World}
use Rattle.machine.specs.Scan.{State, expansion}
use Rattle.library.specs.Meaning.{Library}
use Rattle.machine.specs.declared.amounts.Amounts.{Amounts}
use Rattle.dictionary.specs.declared.dictionary.Dictionary.{Dictionary}
use Rattle.dictionary.specs.Meant.{dictionary_in}
use Rattle.meter.specs.declared.meter.Meter.{Meter}
use Rattle.meter.specs.Metered.{tally}

-- the scan came to its end in a state whose left text is the first n bytes of the area
pub record Ended (n : ℕ) (w : World) (area : List ℕ) (t : Tally) (c : Came World State) : Type 0 where
  pub state : State
  pub came : c ≡ gave state t
  pub world_is : state.world ≡ w
  pub left_is : take n area ≡ state.left
  pub len_is : n ≡ length state.left

-- it came to its end, or it stopped
abbrev pub CameTo : Result ℕ Refusal → World → List ℕ → Tally → Came World State → Type 0
CameTo (Ok n) w area t c = Ended n w area t c
CameTo (Err e) w area t c = c ≡ stopped e w t

-- a source is expanded in a world, within the bounds of a meter; w' and m' are the world and the meter then, and the area holds
-- these bytes
pub record Expands (code : Code) (source : Text) (w w' : World) (m m' : Meter) (area : List ℕ) (r : Result ℕ Refusal) : Type 0 where
  pub bounds_stay : m'.bounds ≡ m.bounds
  pub came_to : CameTo r w' area (tally m') (walk m.bounds (tally m) (expansion code source w))

-- the world of the machine that these parts are
abbrev pub world_of_parts : Dictionary → List ℕ → Library → Text → Text → World
world_of_parts d store library printed called =
    record { dictionary = dictionary_in d store; library = library; printed = printed; called = called }

-- tables and areas suffice for what may be needed within these bounds, which are the language's at most
pub record Suffice (b : Amounts) (rows roll store scan print called scratch : ℕ) : Type 0 where
  pub rows_do : b.names ≤ rows
  pub roll_does : b.roll ≤ roll
  pub store_does : b.store ≤ store
  pub scan_is : scan ≡ b.scan
  pub print_does : b.print ≤ print
  pub called_does : b.scan ≤ called
  pub scratch_does : store ≤ scratch
  pub small : store ≤ 32768
  pub small_store : b.store ≤ 32768
  pub small_print : b.print ≤ 32768
  pub small_scan : b.scan ≤ 32768
  pub allowed : b.steps ≤ 1000000
