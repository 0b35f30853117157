-- What a dictionary means, given the store that its bytes lie in.
use Rattle.std.specs.Prelude.{ℕ, Bool, false, List, take, drop, vec_items, slice_index_or}
use Rattle.std.specs.List.{position}
use Rattle.std.specs.Option.{unwrap_or}
use Rattle.std.specs.Str.{bytes_eq}
use Rattle.machine.specs.declared.built_in.BuiltIn.{BuiltIn}
use Rattle.machine.specs.BuiltIns.{letters, all_built_ins}
use Rattle.machine.specs.Dictionary as machine
use Rattle.dictionary.specs.declared.dictionary.Dictionary.{Dictionary}
use Rattle.dictionary.specs.Decoding.{packed, row_size, row_in, class_size, class_in}

-- the place of a built-in in the table
unfoldable pub place : BuiltIn → ℕ
place f = unwrap_or (position (λ g. bytes_eq (letters g) (letters f)) all_built_ins) 46

-- does the built-in stand, by the flags in the order of the table?
abbrev pub stands : List Bool → BuiltIn → Bool
stands flags f = slice_index_or flags (place f) false

-- the bytes in use
abbrev pub text_in : Dictionary → List ℕ → List ℕ
text_in d store = take d.used store

abbrev pub rows_in : Dictionary → List ℕ → List machine.Row
rows_in d store = packed row_size row_in (vec_items d.rows) (text_in d store)

abbrev pub classes_in : Dictionary → List ℕ → List machine.Class
classes_in d store = packed class_size class_in (vec_items d.classes) (drop d.row_bytes (text_in d store))

abbrev pub dictionary_in : Dictionary → List ℕ → machine.Dictionary
dictionary_in d store = record {
  originals = stands d.originals;
  rows = rows_in d store;
  classes = classes_in d store;
}
