-- Answers in words. Assumes nothing.
use Rattle.std.specs.Prelude.{ℕ, Bool, cond, List, [], ◌∷◌, ◌++◌, Some, None, codes, decimal, Option}
use Rattle.std.specs.List.{flat_map}
use Rattle.refusal.specs.Numbers.{number_of}
use Rattle.refusal.specs.declared.Refusal.{Refusal}
use Rattle.library.specs.Meaning.{Library, Program, NamedString}
use Rattle.library.specs.declared.space.Space.{Space}
use Rattle.hex_text.specs.Hex.{hexed}

-- bytes in hex, - for none
abbrev pub shown_bytes : List ℕ → List ℕ
shown_bytes [] = codes "-"
shown_bytes (b ∷ bs) = hexed (b ∷ bs)

unfoldable pub shown_string : NamedString → List ℕ
shown_string s = codes " " ++ shown_bytes s.name ++ codes "=" ++ shown_bytes s.body

unfoldable pub shown_program : Program → List ℕ
shown_program p = codes " " ++ shown_bytes p.name ++ codes ":" ++ flat_map shown_string p.strings

abbrev pub shown_lock : Bool → List ℕ
shown_lock locked = cond locked (codes "locked yes") (codes "locked no")

-- how many programs, strings and bytes are left
unfoldable pub shown_space : Space → List ℕ
shown_space left = codes " left " ++ decimal left.programs ++ codes " " ++ decimal left.strings ++ codes " " ++ decimal left.bytes

unfoldable pub shown_library : Library → List ℕ
shown_library l = shown_lock l.locked ++ shown_space l.space ++ flat_map shown_program l.programs

-- whether it was refused, and by which number
abbrev pub shown_outcome : Option Refusal → List ℕ
shown_outcome None = codes "ok"
shown_outcome (Some refusal) = codes "refused " ++ decimal (number_of refusal)

-- where a program stands
abbrev pub shown_place : Option ℕ → List ℕ
shown_place None = codes "absent"
shown_place (Some k) = codes "at " ++ decimal k
