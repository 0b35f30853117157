-- What the lines of a script ask for.
use Rattle.std.specs.Prelude.{ℕ, cond, List, [], ◌∷◌, length, Some, None, vec_items, codes, decimal, Option}
use Rattle.std.specs.Option.{option_map, option_and_then}
use Rattle.std.specs.Str.{bytes_eq}
use Rattle.library.specs.Meaning.{NamedString, Program}
use Rattle.library_cases.specs.declared.command.Command.{Command}
use Rattle.library_cases.specs.declared.command.Command.TheVariants.{Shelf, Lock, Ask}
use Rattle.library_cases.specs.declared.command.Task.{Task}
use Rattle.library_cases.specs.declared.command.Task.TheVariants.{Put, Delete, Find, Show}
use Rattle.library_cases.specs.declared.reading.Verb.{Verb}
use Rattle.library_cases.specs.declared.reading.Verb.TheVariants as verb
use Rattle.library_cases.specs.Handed.{handed}
use Rattle.library_cases.specs.Words.{words, bytes_of}

-- what is asked of a library
pub data Asked : Type 0 where
  put : Program → Asked
  delete : List ℕ → Asked
  find : List ℕ → Asked
  show : Asked

pub data Line : Type 0 where
  -- the library is an empty shelf
  shelf : Line
  -- from now on it is locked
  lock : Line
  ask : Asked → Line

abbrev pub asked : Task → Asked
asked (Put name strings) = put (record { name = vec_items name; strings = handed strings })
asked (Delete name) = delete (vec_items name)
asked (Find name) = find (vec_items name)
asked Show = show

abbrev pub meant : Command → Line
meant Shelf = shelf
meant Lock = lock
meant (Ask task) = ask (asked task)

-- The words of a line.

abbrev pub verb_of : List ℕ → Option Verb
verb_of w =
    cond (bytes_eq w (codes "shelf")) (Some verb.Shelf)
    (cond (bytes_eq w (codes "put")) (Some verb.Put)
    (cond (bytes_eq w (codes "delete")) (Some verb.Delete)
    (cond (bytes_eq w (codes "lock")) (Some verb.Lock)
    (cond (bytes_eq w (codes "find")) (Some verb.Find)
    (cond (bytes_eq w (codes "lib")) (Some verb.Show) None)))))

-- the line that has no words after its verb
abbrev pub alone : List (List ℕ) → Line → Option Line
alone [] l = Some l
alone (w ∷ ws) l = None

-- the name that is the only word
abbrev pub name_in : List (List ℕ) → Option (List ℕ)
name_in [] = None
name_in (w ∷ []) = bytes_of w
name_in (w ∷ v ∷ ws) = None

-- a string, where its name and its body are there
abbrev pub string_of : Option (List ℕ) → Option (List ℕ) → Option NamedString
string_of (Some n) (Some b) = Some (record { name = n; body = b })
string_of (Some n) None = None
string_of None b = None

-- a string before strings, where all are there
abbrev pub string_before : Option NamedString → Option (List NamedString) → Option (List NamedString)
string_before (Some s) (Some ss) = Some (s ∷ ss)
string_before (Some s) None = None
string_before None ss = None

-- the strings that words are, two and two
abbrev pub strings_in : List (List ℕ) → Option (List NamedString)
strings_in [] = Some []
strings_in (n ∷ []) = None
strings_in (n ∷ b ∷ ws) = string_before (string_of (bytes_of n) (bytes_of b)) (strings_in ws)

-- a program of this name, where its count is how many strings it has
abbrev pub program_of : List ℕ → Option (List ℕ) → Option (List NamedString) → Option Line
program_of k name (Some ss) =
    cond (bytes_eq (decimal (length ss)) k) (option_map (λ (n : List ℕ). ask (put (record { name = n; strings = ss }))) name) None
program_of k name None = None

-- name, count and strings
abbrev pub put_in : List (List ℕ) → Option Line
put_in [] = None
put_in (n ∷ []) = None
put_in (n ∷ k ∷ ws) = program_of k (bytes_of n) (strings_in ws)

abbrev pub by_verb : Verb → List (List ℕ) → Option Line
by_verb verb.Shelf ws = alone ws shelf
by_verb verb.Lock ws = alone ws lock
by_verb verb.Show ws = alone ws (ask show)
by_verb verb.Put ws = put_in ws
by_verb verb.Delete ws = option_map (λ (n : List ℕ). ask (delete n)) (name_in ws)
by_verb verb.Find ws = option_map (λ (n : List ℕ). ask (find n)) (name_in ws)

-- what a line asks for; None where it is no command
abbrev pub in_words : List (List ℕ) → Option Line
in_words [] = None
in_words (w ∷ ws) = option_and_then (λ (v : Verb). by_verb v ws) (verb_of w)

abbrev pub command_in : List ℕ → Option Line
command_in line = in_words (words line)
