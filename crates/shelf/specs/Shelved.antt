-- What a shelf means.
use Rattle.std.specs.Prelude.{false, List, [], vec_items, vec_len}
use Rattle.library.specs.Meaning.{Program, Library}
use Rattle.library.specs.Keeping.{minus}
use Rattle.library.specs.declared.space.Space.{Space}
use Rattle.shelf.specs.Decoding.{decoded}
use Rattle.shelf.specs.declared.shelf.Shelf.{Shelf}

-- the space of an empty shelf
abbrev pub bounds : Space
bounds = record { programs = 32; strings = 128; bytes = 8192 }

-- the space that is taken
abbrev pub taken : Shelf → Space
taken s = record { programs = vec_len s.programs; strings = vec_len s.strings; bytes = vec_len s.bytes }

abbrev pub programs_of : Shelf → List Program
programs_of s = decoded (vec_items s.programs) (vec_items s.strings) (vec_items s.bytes)

abbrev pub meaning_of : Shelf → Library
meaning_of s = record { programs = programs_of s; space = minus bounds (taken s); locked = false }

-- a shelf of no programs
abbrev pub empty_library : Library
empty_library = record { programs = []; space = bounds; locked = false }
