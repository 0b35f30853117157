-- Where a program begins in packed rows, and what is read there.
use Rattle.std.specs.Prelude.{ℕ, ◌+◌, List, take}
use Rattle.library.specs.Meaning.{Program}
use Rattle.shelf.specs.declared.rows.ProgramRow.{ProgramRow}
use Rattle.shelf.specs.declared.rows.StringRow.{StringRow}
use Rattle.shelf.specs.declared.views.ProgramView.{ProgramView}
use Rattle.shelf.specs.Decoding.{string_count, name_sizes, text_sizes, strings_in}

-- the strings, and the bytes, that lie before program p
abbrev pub first_string : ℕ → List ProgramRow → ℕ
first_string p ps = string_count (take p ps)

abbrev pub first_byte : ℕ → List ProgramRow → List StringRow → ℕ
first_byte p ps ss = name_sizes (take p ps) + text_sizes (take (first_string p ps) ss)

-- the program that a view shows
abbrev pub program_viewed : ProgramView → Program
program_viewed v = record { name = v.name.now; strings = strings_in v.rows.now v.texts.now }
