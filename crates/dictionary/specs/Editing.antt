-- What an edit of the rows leaves, and the room that it needs.
use Rattle.std.specs.Prelude.{◌≡◌, ℕ, ◌≤◌, List, length}
use Rattle.machine.specs.Texts.{Text}
use Rattle.machine.specs.Dictionary.{Meaning, names_in, bytes_in}
use Rattle.machine.specs.Dictionary as machine
use Rattle.dictionary.specs.declared.dictionary.Dictionary.{Dictionary}
use Rattle.dictionary.specs.Meant.{classes_in}

abbrev pub row_of : Text → Meaning → machine.Row
row_of name meaning = record { name = name; meaning = meaning }

-- the memory is as it was, and the store has the bytes in use
pub record Kept (d e : Dictionary) (after : List ℕ) : Type 0 where
  pub most_rows : e.most_rows ≡ d.most_rows
  pub whole : e.used ≤ length after

-- an edit of rows alone
pub record RowsEdited (d e : Dictionary) (store after : List ℕ) : Type 0 where
  pub originals : e.originals ≡ d.originals
  pub classes : classes_in e after ≡ classes_in d store
  pub kept : Kept d e after

-- the dictionary has the memory, and the store the bytes, for this
pub record Room (d : Dictionary) (store : List ℕ) (after : machine.Dictionary) : Type 0 where
  pub names : names_in after ≤ d.most_rows
  pub bytes : bytes_in after ≤ length store

-- the dictionary with those rows
abbrev pub with_rows : List machine.Row → machine.Dictionary → machine.Dictionary
with_rows rows d = record { originals = d.originals; rows = rows; classes = d.classes }
