-- What an expansion has effects on, and what a call comes to. None of this sees a bound. Assumes nothing.
use Rattle.std.specs.Prelude.{ℕ, Bool, false, cond, List, [], ◌++◌, length, Some, None, Option, slice_index_or}
use Rattle.library.specs.Meaning.{Library}
use Rattle.machine.specs.Texts.{Text, Code}
use Rattle.machine.specs.Faults.{Fault, names?, store?, print?, no_name, not_a_string}
use Rattle.machine.specs.Chain.{Run, give, fault, ask}
use Rattle.machine.specs.Dictionary.{Dictionary, Meaning, built_in, string, Str, look_up, change, names_in, bytes_in}

pub record World : Type 0 where
  pub dictionary : Dictionary
  pub library : Library
  pub printed : Text
  -- the name of the call that is being made
  pub called : Text

abbrev pub with_dictionary : Dictionary → World → World
with_dictionary d w = record { dictionary = d; library = w.library; printed = w.printed; called = w.called }

abbrev pub with_library : Library → World → World
with_library l w = record { dictionary = w.dictionary; library = l; printed = w.printed; called = w.called }

abbrev pub print_more : Text → World → World
print_more t w = record { dictionary = w.dictionary; library = w.library; printed = w.printed ++ t; called = w.called }

abbrev pub calling : Text → World → World
calling n w = record { dictionary = w.dictionary; library = w.library; printed = w.printed; called = n }

-- a string of the dictionary has changed
abbrev pub with_string : Text → Str → World → World
with_string n s w = with_dictionary (change n s w.dictionary) w

-- What a function does, once its own questions have passed.

pub data Value : Type 0 where
  -- a text, which an active call puts before the right text and a passive one behind the left
  text : Text → Value
  -- BREAK: the text becomes the right text
  break : Text → Value

-- which shortages are asked about
pub data Asks : Type 0 where
  nothing_more names_and_store store_only print_only : Asks

pub record Plan : Type 0 where
  pub value : Value
  pub after : World
  pub asks : Asks

pub data Outcome : Type 0 where
  -- a fault, and what is left behind
  faults : Fault → World → Outcome
  plans : Plan → Outcome

-- a question: if it says no, that is the fault
abbrev pub provided : Bool → Fault → World → Outcome → Outcome
provided yes_it_is f w next = cond yes_it_is next (faults f w)

-- a value, and nothing changes
abbrev pub valued : Text → World → Outcome
valued v w = plans (record { value = text v; after = w; asks = nothing_more })

-- a value, and what has changed
abbrev pub changing : Text → World → Outcome
changing v after = plans (record { value = text v; after = after; asks = nothing_more })

-- no value, and a dictionary that has to fit
abbrev pub defining : Dictionary → World → Outcome
defining d w = plans (record { value = text []; after = with_dictionary d w; asks = names_and_store })

-- the string of a name
abbrev pub if_string : Option Meaning → World → (Str → Outcome) → Outcome
if_string None w go = faults no_name w
if_string (Some (built_in f)) w go = faults not_a_string w
if_string (Some (string s)) w go = go s

abbrev pub of_string : Code → Text → World → (Str → Outcome) → Outcome
of_string code n w go = if_string (look_up code w.dictionary n) w go

-- A function that has passed all its questions but that of the scan.

pub record Ready : Type 0 where
  pub result : Value
  -- what stands once the scan has room
  pub after : World
  -- what stands if it has none
  pub kept : World
  -- has the value a created number?
  pub numbered : Bool

abbrev pub ready : World → Plan → Ready
ready w p = record { result = p.value; after = p.after; kept = w; numbered = false }

abbrev pub asking : World → Plan → Asks → Run World Ready
asking w p nothing_more = give (ready w p)
asking w p names_and_store = ask names? (names_in p.after.dictionary) w (ask store? (bytes_in p.after.dictionary) w (give (ready w p)))
asking w p store_only = ask store? (bytes_in p.after.dictionary) w (give (ready w p))
asking w p print_only = ask print? (length p.after.printed) w (give (ready w p))

abbrev pub running : World → Outcome → Run World Ready
running w (faults f left) = fault f left
running w (plans p) = asking w p p.asks

-- parameter n, or nothing where there are fewer
abbrev pub parameter : ℕ → List Text → Text
parameter n ps = slice_index_or ps n []

abbrev pub p1 : List Text → Text
p1 ps = parameter 0 ps

abbrev pub p2 : List Text → Text
p2 ps = parameter 1 ps

abbrev pub p3 : List Text → Text
p3 ps = parameter 2 ps

abbrev pub p4 : List Text → Text
p4 ps = parameter 3 ps
