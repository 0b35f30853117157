-- The bytes of an image: its code's number, its count of strings, an entry of 25 bytes for each string, then each string's name and body.
use Rattle.std.specs.Prelude.{◌≡◌, ℕ, ◌-◌, ◌/◌, ◌%◌, ◌≤◌, Bool, true, ◌&&◌, List, [], ◌∷◌, ◌++◌, map, length, replicate, nat_lt}
use Rattle.std.specs.List.{flat_map, list_all}
use Rattle.code.specs.Meaning.{CodeMeaning, body_byte}
use Rattle.library.specs.Meaning.{Program, Lawful}
use Rattle.image.specs.Tests.{not_empty}
use Rattle.image.specs.Lines.{Line, listed}

-- an entry of the contents: what it says of one string
pub record Entry : Type 0 where
  -- how long its program's name is, and the 20 bytes that begin with that name
  pub program_length : ℕ
  pub program_field : List ℕ
  -- how long its name and its body are
  pub name_length : ℕ
  pub body_length : ℕ

-- the entry of a line: its program's name is filled with zeros
abbrev pub entry_for : Line → Entry
entry_for l = record {
  program_length = length l.program;
  program_field = l.program ++ replicate (20 - length l.program) 0;
  name_length = length l.string.name;
  body_length = length l.string.body;
}

-- a number in two bytes, high byte first
abbrev pub two_bytes : ℕ → List ℕ
two_bytes n = n / 256 ∷ n % 256 ∷ []

-- 25 bytes
abbrev pub entry_bytes : Entry → List ℕ
entry_bytes e = e.program_length ∷ e.program_field ++ (two_bytes e.name_length ++ two_bytes e.body_length)

abbrev pub text_bytes : Line → List ℕ
text_bytes l = l.string.name ++ l.string.body

abbrev pub laid_out_lines : ℕ → List Line → List ℕ
laid_out_lines number ls =
    number ∷ length ls ∷ flat_map entry_bytes (map entry_for ls) ++ flat_map text_bytes ls

-- the image of programs
abbrev pub laid_out : CodeMeaning → List Program → List ℕ
laid_out code ps = laid_out_lines code.number (listed ps)

-- What an image may hold. Names are of characters; a body may have ends of lines and marks too.
abbrev pub proper_bytes : CodeMeaning → Line → Bool
proper_bytes code l =
    list_all code.character l.program && list_all code.character l.string.name && list_all (body_byte code) l.string.body

-- names and bodies have lengths that two bytes hold
abbrev pub short_texts : Line → Bool
short_texts l = nat_lt (length l.string.name) 65536 && nat_lt (length l.string.body) 65536

abbrev pub has_strings : Program → Bool
has_strings p = not_empty p.strings

pub record KeepsRules (code : CodeMeaning) (ps : List Program) : Type 0 where
  -- at most 128 strings, and one at least in each program
  pub few : length (listed ps) ≤ 128
  pub filled : list_all has_strings ps ≡ true
  -- program names are 1 to 20 bytes long, and distinct
  pub lawful : Lawful ps
  pub short : list_all short_texts (listed ps) ≡ true
  pub proper : list_all (proper_bytes code) (listed ps) ≡ true
