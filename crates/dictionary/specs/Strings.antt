-- A string where it lies.
use Rattle.std.specs.Prelude.{ℕ, ◌+◌, List, take, drop}
use Rattle.machine.specs.Dictionary.{Str}
use Rattle.dictionary.specs.declared.finding.Place.{Place}
use Rattle.dictionary.specs.declared.rows.RowMeaning.TheVariants as stored
use Rattle.dictionary.specs.declared.string_place.StringPlace.{StringPlace}

abbrev pub place_of : StringPlace → Place
place_of s = record { index = s.index; start = s.start; row = record { name = s.name; meaning = stored.String s.extent } }

-- the string in the bytes of the store
abbrev pub string_in : StringPlace → List ℕ → Str
string_in s store = record { body = take s.extent.length (drop (s.start + s.name) store); pointer = s.extent.pointer }
