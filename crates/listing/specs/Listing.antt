-- A library of programs as readable text. Assumes nothing.
use Rattle.std.specs.Prelude.{ℕ, ◌+◌, ◌/◌, ◌%◌, Bool, cond, List, [], ◌∷◌, ◌++◌, length, Some, None, codes, decimal, Option, ◌==◌, nat_lt}
use Rattle.std.specs.List.{flat_map}
use Rattle.code.specs.Meaning.{CodeMeaning}
use Rattle.library.specs.Meaning.{Library, Program, NamedString, string_count}
use Rattle.library.specs.declared.space.Space.{Space}

-- A byte.

-- a digit in base 16: 0 to 9, A to F
abbrev pub hex_digit : ℕ → ℕ
hex_digit d = cond (nat_lt d 10) (48 + d) (55 + d)

abbrev pub shown_hex : ℕ → List ℕ
shown_hex b = codes "{x" ++ hex_digit (b / 16) ∷ hex_digit (b % 16) ∷ codes "}"

-- a segment mark, by its number
abbrev pub shown_mark : ℕ → List ℕ
shown_mark n = codes "{" ++ decimal n ++ codes "}"

-- the glyph; or the byte in base 16, where it has none
abbrev pub shown_glyph : Option ℕ → ℕ → List ℕ
shown_glyph (Some c) b = c ∷ []
shown_glyph None b = shown_hex b

-- a segment mark, or any other byte
abbrev pub shown_other : Option ℕ → Option ℕ → ℕ → List ℕ
shown_other (Some n) glyph b = shown_mark n
shown_other None glyph b = shown_glyph glyph b

unfoldable pub shown_byte : CodeMeaning → (ℕ → Option ℕ) → ℕ → List ℕ
shown_byte code glyph b =
    cond (b == code.end_of_line) (codes "{/}")
    (cond (b == code.creation_mark) (codes "{#}")
    (shown_other (code.mark_number b) (glyph b) b))

abbrev pub shown_text : CodeMeaning → (ℕ → Option ℕ) → List ℕ → List ℕ
shown_text code glyph text = flat_map (shown_byte code glyph) text

-- A string, and a program with its strings.

unfoldable pub shown_string : CodeMeaning → (ℕ → Option ℕ) → NamedString → List ℕ
shown_string code glyph s =
    codes "  " ++ shown_text code glyph s.name
    ++ codes ", " ++ decimal (length s.body) ++ codes " bytes: " ++ shown_text code glyph s.body ++ codes "\n"

unfoldable pub shown_program : CodeMeaning → (ℕ → Option ℕ) → Program → List ℕ
shown_program code glyph p =
    codes "program " ++ shown_text code glyph p.name
    ++ codes ", strings: " ++ decimal (length p.strings) ++ codes "\n"
    ++ flat_map (shown_string code glyph) p.strings

-- The library.

unfoldable pub code_line : ℕ → List ℕ → List ℕ
code_line number title = codes "code: " ++ decimal number ++ codes " (" ++ title ++ codes ")\n"

unfoldable pub count_lines : List Program → List ℕ
count_lines ps = codes "programs: " ++ decimal (length ps) ++ codes "\nstrings: " ++ decimal (string_count ps) ++ codes "\n"

unfoldable pub lock_line : Bool → List ℕ
lock_line locked = codes "locked: " ++ cond locked (codes "yes") (codes "no") ++ codes "\n"

unfoldable pub space_line : Space → List ℕ
space_line s =
    codes "space left: " ++ decimal s.programs ++ codes " programs, "
    ++ decimal s.strings ++ codes " strings, " ++ decimal s.bytes ++ codes " bytes\n"

unfoldable pub head : CodeMeaning → List ℕ → Library → List ℕ
head code title library =
    code_line code.number title ++ count_lines library.programs ++ lock_line library.locked ++ space_line library.space

unfoldable pub listing : CodeMeaning → List ℕ → (ℕ → Option ℕ) → Library → List ℕ
listing code title glyph library = head code title library ++ flat_map (shown_program code glyph) library.programs
