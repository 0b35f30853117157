-- A script: what each line leaves, and its answer.
use Rattle.std.specs.Prelude.{ℕ, Bool, false, cond, List, [], ◌∷◌, Some, None, codes, Option, ◌==◌}
use Rattle.library.specs.Meaning.{Library}
use Rattle.library.specs.Locked.{locked_library}
use Rattle.shelf.specs.Shelved.{meaning_of, programs_of, empty_library}
use Rattle.library_cases.specs.declared.kept.Kept.{Kept}
use Rattle.library_cases.specs.declared.kept.Kept.TheVariants.{Open, Locked}
use Rattle.library_cases.specs.Commands.{Line, shelf, lock, ask, command_in}
use Rattle.library_cases.specs.Answers.{answered, left_by}

-- what the library of a script means
abbrev pub kept_meaning : Kept → Library
kept_meaning (Open s) = meaning_of s
kept_meaning (Locked s) = locked_library (programs_of s.inner)

-- A command: the library that it leaves, and its answer.

abbrev pub after_command : Library → Line → Library
after_command l shelf = empty_library
after_command l lock = locked_library l.programs
after_command l (ask a) = left_by l a

abbrev pub answer_to_command : Library → Line → List ℕ
answer_to_command l shelf = codes "ok"
answer_to_command l lock = codes "ok"
answer_to_command l (ask a) = answered l a

-- A line that is no command changes nothing.

abbrev pub after_if : Library → Option Line → Library
after_if l (Some line) = after_command l line
after_if l None = l

abbrev pub answer_if : Library → Option Line → List ℕ
answer_if l (Some line) = answer_to_command l line
answer_if l None = codes "bad line"

-- A line. A title, which begins with %, is repeated.

abbrev pub is_title : List ℕ → Bool
is_title [] = false
is_title (c ∷ cs) = c == 37

abbrev pub after_line : Library → List ℕ → Library
after_line l line = cond (is_title line) l (after_if l (command_in line))

abbrev pub answer_to_line : Library → List ℕ → List ℕ
answer_to_line l line = cond (is_title line) line (answer_if l (command_in line))
