-- What packed rows mean: rows have lengths only, and the bytes lie in the order of the rows, without gaps.
use Rattle.std.specs.Prelude.{ℕ, ◌+◌, List, [], ◌∷◌, take, drop, sum_by}
use Rattle.library.specs.Meaning.{NamedString, Program}
use Rattle.shelf.specs.declared.rows.ProgramRow.{ProgramRow}
use Rattle.shelf.specs.declared.rows.StringRow.{StringRow}

-- how many strings programs have
abbrev pub string_count : List ProgramRow → ℕ
string_count ps = sum_by (λ (p : ProgramRow). p.strings) ps

-- the bytes of the names of programs
abbrev pub name_sizes : List ProgramRow → ℕ
name_sizes ps = sum_by (λ (p : ProgramRow). p.name) ps

-- the bytes of the names and bodies of strings
abbrev pub text_sizes : List StringRow → ℕ
text_sizes ss = sum_by (λ (s : StringRow). s.name + s.body) ss

-- the strings of so many bytes each, from the front of the bytes
abbrev pub strings_in : List StringRow → List ℕ → List NamedString
strings_in [] bytes = []
strings_in (s ∷ ss) bytes =
    record { name = take s.name bytes; body = take s.body (drop s.name bytes) }
    ∷ strings_in ss (drop (s.name + s.body) bytes)

-- the program at the front of the strings and of the bytes
abbrev pub program_in : ProgramRow → List StringRow → List ℕ → Program
program_in p ss bytes =
    record { name = take p.name bytes; strings = strings_in (take p.strings ss) (drop p.name bytes) }

-- the programs: each takes its strings and its bytes, and the next begin behind them
abbrev pub decoded : List ProgramRow → List StringRow → List ℕ → List Program
decoded [] ss bytes = []
decoded (p ∷ ps) ss bytes =
    program_in p ss bytes
    ∷ decoded ps (drop p.strings ss) (drop (p.name + text_sizes (take p.strings ss)) bytes)

-- the bytes that programs and their strings take
abbrev pub sizes : List ProgramRow → List StringRow → ℕ
sizes ps ss = name_sizes ps + text_sizes ss
