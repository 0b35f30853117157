-- What a string becomes in packed rows.
use Rattle.std.specs.Prelude.{ℕ, List, ◌++◌, length}
use Rattle.library.specs.Meaning.{NamedString}
use Rattle.shelf.specs.declared.rows.StringRow.{StringRow}

-- its row, and its bytes
abbrev pub row_of : NamedString → StringRow
row_of s = record { name = length s.name; body = length s.body }

abbrev pub bytes_of : NamedString → List ℕ
bytes_of s = s.name ++ s.body
