-- What a view shows.
use Rattle.library.specs.declared.string_view.StringView.{StringView}
use Rattle.library.specs.declared.program_view.ProgramView.{ProgramView}
use Rattle.library.specs.Meaning.{NamedString, Program, Library, program_at, strings_of}

-- the string that a view shows
abbrev pub string_viewed : StringView → NamedString
string_viewed v = record { name = v.name.now; body = v.body.now }

-- the program that a view shows, in a library of that meaning
abbrev pub program_viewed : {R : Type 0} → (R → Library) → ProgramView R → Program
program_viewed meaning v = record { name = v.name.now; strings = strings_of (program_at (meaning v.library.now).programs v.program) }
