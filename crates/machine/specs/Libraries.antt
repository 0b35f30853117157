-- The functions on the library: STORE DELETE COPY NAMES PDF; and retrieval. Assumes nothing.
use Rattle.std.specs.Prelude.{ℕ, Bool, true, false, cond, not, ◌&&◌, List, [], ◌∷◌, ◌++◌, map, drop, is_some, Some, None, Option}
use Rattle.library.specs.Meaning.{Library, Program, NamedString, place, program_at}
use Rattle.library.specs.Name.{fits_name}
use Rattle.library.specs.Keeping.{fits, space_of, with_program, without_program}
use Rattle.machine.specs.Texts.{Text, Code, proper_name, proper_body}
use Rattle.machine.specs.Faults.{names?, store?, no_name, not_a_string, program_name_length, locked, program_present, program_absent, library_full, foreign_text}
use Rattle.machine.specs.Chain.{Run, give, fault, ask, ◌>>=◌}
use Rattle.machine.specs.Dictionary.{Dictionary, Meaning, built_in, string, new_string, body_of, look_up, define, names_in, bytes_in}
use Rattle.machine.specs.World.{World, with_dictionary, with_library, text, nothing_more, Outcome, faults, provided, valued, changing, Ready, ready, p1, p2, p3}
use Rattle.std.specs.List.{list_all}
use Rattle.std.specs.Option.{option_and_then}

-- the program of a name
abbrev pub program_named : Text → Library → Option Program
program_named n l = option_and_then (program_at l.programs) (place n l.programs)

abbrev pub has_program : Text → Library → Bool
has_program n l = is_some (place n l.programs)

-- STORE: a program p1 of the strings p2 .., each with its whole body
abbrev pub is_string : Option Meaning → Bool
is_string None = false
is_string (Some (built_in f)) = false
is_string (Some (string s)) = true

abbrev pub whole_body : Option Meaning → Text
whole_body None = []
whole_body (Some m) = body_of m

abbrev pub program_to_store : Code → List Text → Dictionary → Program
program_to_store code ps d =
    record { name = p1 ps; strings = map (λ n. record { name = n; body = whole_body (look_up code d n) }) (drop 1 ps) }

-- the questions that the library puts
abbrev pub put_in_library : Program → World → Outcome
put_in_library p w =
    provided (not w.library.locked) locked w
    (provided (not (has_program p.name w.library)) program_present w
    (provided (fits (space_of p) w.library.space) library_full w
    (changing [] (with_library (with_program w.library p) w))))

abbrev pub store_program : Code → List Text → World → Outcome
store_program code ps w =
    provided (list_all (λ n. is_some (look_up code w.dictionary n)) (drop 1 ps)) no_name w
    (provided (list_all (λ n. is_string (look_up code w.dictionary n)) (drop 1 ps)) not_a_string w
    (provided (fits_name (p1 ps)) program_name_length w
    (put_in_library (program_to_store code ps w.dictionary) w)))

-- DELETE: the program p1 goes
abbrev pub take_from_library : Text → World → Outcome
take_from_library n w =
    provided (not w.library.locked) locked w
    (provided (has_program n w.library) program_absent w
    (changing [] (with_library (without_program w.library n) w)))

abbrev pub delete_program : List Text → World → Outcome
delete_program ps w = provided (fits_name (p1 ps)) program_name_length w (take_from_library (p1 ps) w)

-- the program p1
abbrev pub if_program : Option Program → World → (Program → Outcome) → Outcome
if_program None w go = faults program_absent w
if_program (Some p) w go = go p

abbrev pub of_program : List Text → World → (Program → Outcome) → Outcome
of_program ps w go = provided (fits_name (p1 ps)) program_name_length w (if_program (program_named (p1 ps) w.library) w go)

-- NAMES: the names of its strings, with commas between
abbrev pub with_commas : ℕ → List Text → Text
with_commas comma [] = []
with_commas comma (n ∷ []) = n
with_commas comma (n ∷ m ∷ ms) = n ++ comma ∷ with_commas comma (m ∷ ms)

abbrev pub string_names : Code → List Text → World → Outcome
string_names code ps w =
    of_program ps w (λ p.
    let names = map (λ (s : NamedString). s.name) p.strings in
    provided (list_all (proper_name code) names) foreign_text w (valued (with_commas (code.named 44) names) w))

-- PDF: p2 if the program is there, else p3
abbrev pub program_defined : List Text → World → Outcome
program_defined ps w =
    provided (fits_name (p1 ps)) program_name_length w
    (valued (cond (has_program (p1 ps) w.library) (p2 ps) (p3 ps)) w)

-- Strings fetched from a program stand one by one: a refused one leaves those before it.
abbrev pub fetching : Code → List NamedString → World → Run World World
fetching code [] w = give w
fetching code (s ∷ ss) w =
    let d = define code s.name (string (new_string s.body)) w.dictionary in
    cond (proper_name code s.name && proper_body code s.body)
    (ask names? (names_in d) w (ask store? (bytes_in d) w (fetching code ss (with_dictionary d w))))
    (fault foreign_text w)

-- COPY: the strings of the program p1 are defined
abbrev pub fetched : World → Ready
fetched w = ready w (record { value = text []; after = w; asks = nothing_more })

abbrev pub copy_found : Code → Option Program → World → Run World Ready
copy_found code None w = fault program_absent w
copy_found code (Some p) w = fetching code p.strings w >>= λ after. give (fetched after)

abbrev pub copy_program : Code → List Text → World → Run World Ready
copy_program code ps w = cond (fits_name (p1 ps)) (copy_found code (program_named (p1 ps) w.library) w) (fault program_name_length w)

-- Retrieval: a called name that means nothing is sought as a program, whose strings are defined.
abbrev pub retrieve : Code → Option Program → World → Run World World
retrieve code None w = give w
retrieve code (Some p) w = fetching code p.strings w

abbrev pub unless_defined : Code → Option Meaning → Text → World → Run World World
unless_defined code (Some m) n w = give w
unless_defined code None n w = retrieve code (program_named n w.library) w

abbrev pub retrieving : Code → Text → World → Run World World
retrieving code n w = unless_defined code (look_up code w.dictionary n) n w
