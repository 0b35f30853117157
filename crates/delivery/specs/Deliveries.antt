-- How the value of a call goes into the texts of the scan, and what it is taken from. Assumes nothing.
use Rattle.std.specs.Prelude.{◌≡◌, ℕ, ◌+◌, ◌-◌, Bool, cond, List, ◌++◌, map, length, ⊤}
use Rattle.std.specs.List.{range_with_len}
use Rattle.library.specs.declared.reader.Reader.{Ghosts as OfReader}
use Rattle.machine.specs.declared.roll.RollEntry.{RollEntry}
use Rattle.machine.specs.Texts.{Text, Code}
use Rattle.machine.specs.World as machine
use Rattle.machine.specs.Scan.{State, is_active, entry_at, innermost, field, parameters}
use Rattle.dictionary.specs.declared.dictionary.Dictionary.{Dictionary}
use Rattle.dictionary.specs.Finding.{RowAt}
use Rattle.dictionary.specs.Strings.{place_of}
use Rattle.scan.specs.declared.texts.ScanTexts.{ScanTexts}
use Rattle.scan.specs.declared.roll.Roll.{Roll}
use Rattle.scan.specs.Texts.{left_of, right_of}
use Rattle.value.specs.declared.value.Value.{Value}
use Rattle.value.specs.declared.value.Value.TheVariants.{Passed, Filled}
use Rattle.value.specs.Texts.{value_text}
use Rattle.delivery.specs.declared.delivery.Placement.{Placement}
use Rattle.delivery.specs.declared.delivery.Placement.TheVariants.{Active, Passive, Break}
use Rattle.delivery.specs.declared.delivery.Delivery.{Delivery}
use Rattle.delivery.specs.declared.environment.Environment.{Environment}

-- the string of a value stands in a dictionary
abbrev pub StandsIn : Dictionary → Value → Type 0
StandsIn d (Passed s len) = RowAt d (place_of s)
StandsIn d (Filled s created) = RowAt d (place_of s)
StandsIn d other = ⊤

-- the parameters of the innermost call, where its fields stand in a left text
abbrev pub parameters_in : List RollEntry → Text → List Text
parameters_in roll left = map (field roll left) (range_with_len (innermost roll + 1) (length roll - (innermost roll + 1)))

module _ {R : Type 0} {reader : OfReader R} (code : Code) (e : Environment R reader) (v : Value) where
  -- the text of a value of that call
  abbrev pub text_in : List RollEntry → Text → Text
  text_in roll left = value_text code (parameters_in roll left) e.store.now (reader.meaning e.library.now) v

  -- the text of a value of the innermost call of a state
  abbrev pub value_in : State → Text
  value_in s = value_text code (parameters s) e.store.now (reader.meaning e.library.now) v

-- the bytes that the scan has to hold with a value
abbrev pub need_of : Text → State → ℕ
need_of value s = length s.left + length s.right + length value

-- where the value of the innermost call goes
abbrev pub placement_of : Bool → List RollEntry → Placement
placement_of breaks roll = cond breaks Break (cond (is_active (entry_at roll (innermost roll)).begins) Active Passive)

abbrev pub delivery_of : Bool → State → Delivery
delivery_of breaks s = record { placement = placement_of breaks s.roll; left = length s.left }

-- the machine's value of that text
abbrev pub value_of : Bool → Text → machine.Value
value_of breaks t = cond breaks (machine.break t) (machine.text t)

-- the two texts with a value, while the text of the call is still there

abbrev pub left_with : Placement → Text → Text → Text
left_with Active value left = left
left_with Passive value left = left ++ value
left_with Break value left = left

abbrev pub right_with : Placement → Text → Text → Text
right_with Active value right = value ++ right
right_with Passive value right = right
right_with Break value right = value

-- A value was written, by the delivery of a call in a state: the text of the call and its entries are still there.
pub record Written (d : Delivery) (breaks : Bool) (value : Text) (s : State) (t : ScanTexts) (q : Roll) : Type 0 where
  pub of_call : d ≡ delivery_of breaks s
  pub left_is : left_of t ≡ left_with d.placement value s.left
  pub right_is : right_of t ≡ right_with d.placement value s.right
  pub same_roll : q.entries.items ≡ s.roll
