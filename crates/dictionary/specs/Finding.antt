-- Where a row of a name stands.
use Rattle.std.specs.Prelude.{◌≡◌, ℕ, ◌+◌, Bool, List, take, drop, vec_items, Some, sum_by}
use Rattle.std.specs.List.{slice_get}
use Rattle.std.specs.Str.{bytes_eq}
use Rattle.machine.specs.Texts.{Text, first_place}
use Rattle.machine.specs.Dictionary as machine
use Rattle.dictionary.specs.declared.dictionary.Dictionary.{Dictionary}
use Rattle.dictionary.specs.declared.class_place.ClassPlace.{ClassPlace}
use Rattle.dictionary.specs.declared.finding.Place.{Place}
use Rattle.dictionary.specs.declared.rows.RowMeaning.{RowMeaning}
use Rattle.dictionary.specs.Decoding.{body_size, row_size, class_size}
use Rattle.dictionary.specs.Meant.{rows_in, classes_in}

abbrev pub row_named : Text → machine.Row → Bool
row_named n r = bytes_eq r.name n

abbrev pub class_named : Text → machine.Class → Bool
class_named n c = bytes_eq c.name n

-- it is the first class of that name, and its bytes begin there
pub record ClassStanding (d : Dictionary) (store : List ℕ) (name : Text) (p : ClassPlace) : Type 0 where
  pub first : first_place (class_named name) (classes_in d store) ≡ Some p.index
  pub start : p.start ≡ d.row_bytes + sum_by class_size (take p.index (vec_items d.classes))

-- this is that row of the dictionary, and its bytes begin there
pub record RowAt (d : Dictionary) (p : Place) : Type 0 where
  pub row : slice_get (vec_items d.rows) p.index ≡ Some p.row
  pub start : p.start ≡ sum_by row_size (take p.index (vec_items d.rows))

-- row i is the first of that name
abbrev pub FirstNamed : Dictionary → List ℕ → Text → ℕ → Type 0
FirstNamed d store name i = first_place (row_named name) (rows_in d store) ≡ Some i

-- it is the first row of that name
pub record Standing (d : Dictionary) (store : List ℕ) (name : Text) (p : Place) : Type 0 where
  pub first : FirstNamed d store name p.index
  pub at : RowAt d p

-- the bytes of its name and of its body, as they lie in the store
abbrev pub name_at : Place → List ℕ → Text
name_at p store = take p.row.name (drop p.start store)

abbrev pub body_at : Place → List ℕ → Text
body_at p store = take (body_size p.row.meaning) (drop (p.start + p.row.name) store)

-- the same place, of a row that means this
abbrev pub meaning_there : Place → RowMeaning → Place
meaning_there p m = record { index = p.index; start = p.start; row = record { name = p.row.name; meaning = m } }
