-- Programs, and the list of all their strings, each beside the name of its program. Assumes nothing.
use Rattle.std.specs.Prelude.{ℕ, cond, List, [], ◌∷◌, ◌++◌, map}
use Rattle.std.specs.Str.{bytes_eq}
use Rattle.library.specs.Meaning.{NamedString, Program}

-- a line: one string, under the name of its program
pub record Line : Type 0 where
  pub program : List ℕ
  pub string : NamedString

abbrev pub line : List ℕ → NamedString → Line
line n s = record { program = n; string = s }

-- the lines of programs, in order
abbrev pub listed : List Program → List Line
listed [] = []
listed (p ∷ ps) = map (line p.name) p.strings ++ listed ps

-- one line before the rest: it joins the first program if that has its name, else it begins one
abbrev pub joined_by : Line → List Program → List Program
joined_by l [] = record { name = l.program; strings = l.string ∷ [] } ∷ []
joined_by l (p ∷ ps) =
    cond (bytes_eq p.name l.program)
    (record { name = p.name; strings = l.string ∷ p.strings } ∷ ps)
    (record { name = l.program; strings = l.string ∷ [] } ∷ p ∷ ps)

-- the programs of lines: adjacent lines of one name make one program
abbrev pub gathered : List Line → List Program
gathered [] = []
gathered (l ∷ ls) = joined_by l (gathered ls)
