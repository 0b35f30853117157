-- What the bytes after an image's first two say, read from the front. Defined for any bytes.
use Rattle.std.specs.Prelude.{ℕ, zero, suc, ◌+◌, ◌*◌, List, [], ◌∷◌, map, take, drop, slice_index}
use Rattle.library.specs.Meaning.{NamedString, Program}
use Rattle.image.specs.Lines.{Line, line, gathered}
use Rattle.image.specs.Layout.{Entry}

-- the entry that begins a list of bytes
abbrev pub first_entry : List ℕ → Entry
first_entry bs = record {
  program_length = slice_index bs 0;
  program_field = take 20 (drop 1 bs);
  name_length = slice_index bs 21 * 256 + slice_index bs 22;
  body_length = slice_index bs 23 * 256 + slice_index bs 24;
}

abbrev pub entries : ℕ → List ℕ → List Entry
entries zero bs = []
entries (suc n) bs = first_entry bs ∷ entries n (drop 25 bs)

-- the entries of rows of bytes, one in each
abbrev pub entries_of_rows : List (List ℕ) → List Entry
entries_of_rows rows = map first_entry rows

abbrev pub program_of : Entry → List ℕ
program_of e = take e.program_length e.program_field

-- the bytes of its name and body
abbrev pub text_size : Entry → ℕ
text_size e = e.name_length + e.body_length

abbrev pub text_sizes : List Entry → ℕ
text_sizes [] = 0
text_sizes (e ∷ es) = text_size e + text_sizes es

-- the line of an entry whose name and body begin a list of bytes
abbrev pub line_at : Entry → List ℕ → Line
line_at e ts = line (program_of e) (record { name = take e.name_length ts; body = take e.body_length (drop e.name_length ts) })

-- the lines of entries whose names and bodies follow one another
abbrev pub lines : List Entry → List ℕ → List Line
lines [] ts = []
lines (e ∷ es) ts = line_at e ts ∷ lines es (drop (text_size e) ts)

-- the programs of contents (so many entries) and of the texts after them
abbrev pub programs_in : ℕ → List ℕ → List ℕ → List Program
programs_in n contents texts = gathered (lines (entries n contents) texts)

-- the same of rows of entries
abbrev pub programs_of_rows : List (List ℕ) → List ℕ → List Program
programs_of_rows rows texts = gathered (lines (entries_of_rows rows) texts)

abbrev pub strings_of : List Line → List NamedString
strings_of ls = map (λ (l : Line). l.string) ls
