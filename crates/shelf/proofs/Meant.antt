-- What a shelf means, by its parts.
use Rattle.std.proofs.Common.{◌≡◌, ℕ, ◌≤◌, false, List, length, vec_items, vec_len, Some, ◌∙◌, arith}
use Rattle.std.specs.List.{slice_get}
use Rattle.std.proofs.lemmas.List.Sums.{sum_by-take-le}
use Rattle.library.specs.Meaning.{Program, Library, Lawful}
use Rattle.shelf.specs.declared.rows.ProgramRow.{ProgramRow}
use Rattle.shelf.specs.declared.shelf.Shelf.{Shelf}
use Rattle.shelf.specs.Decoding.{string_count, sizes}
use Rattle.shelf.specs.Places.{first_string, first_byte}
use Rattle.shelf.specs.Shelved.{programs_of}
use Rattle.shelf.proofs.Packed.{Spanned, spanned, row_strings, row_name, row_text}

pub counted_of : (s : Shelf) → string_count (vec_items s.programs) ≡ length (vec_items s.strings)
counted_of s = s.counted ∙ s.strings.ok.0

pub filled_of : (s : Shelf) → sizes (vec_items s.programs) (vec_items s.strings) ≡ length (vec_items s.bytes)
filled_of s = s.filled ∙ s.bytes.ok.0

-- what lies before a program
pub record Before (s : Shelf) (p : ℕ) : Type 0 where
  pub strings : first_string p (vec_items s.programs) ≤ vec_len s.strings
  pub bytes : first_byte p (vec_items s.programs) (vec_items s.strings) ≤ vec_len s.bytes

pub before : (s : Shelf) (p : ℕ) → Before s p
before s p =
    record {
      strings = omega (arith, s.counted, sum_by-take-le row_strings (vec_items s.programs) p);
      bytes = omega (arith, s.filled, sum_by-take-le row_name (vec_items s.programs) p, sum_by-take-le row_text (vec_items s.strings) (first_string p (vec_items s.programs)));
    }

-- what program p takes
pub span_of : (s : Shelf) (p : ℕ) (r : ProgramRow) → slice_get (vec_items s.programs) p ≡ Some r → Spanned p r (vec_items s.programs) (vec_items s.strings)
span_of s p r there = spanned p r (vec_items s.programs) (vec_items s.strings) there (counted_of s)

pub lawful_of : (s : Shelf) → Lawful (programs_of s)
lawful_of s = record { fit = s.fit; distinct = s.distinct }

-- a library that is not locked, by its parts
abbrev library : List Program → ℕ → ℕ → ℕ → Library
library ps x y z = record { programs = ps; space = record { programs = x; strings = y; bytes = z }; locked = false }

pub library_same : (ps qs : List Program) (x x' y y' z z' : ℕ) → ps ≡ qs → x ≡ x' → y ≡ y' → z ≡ z' → library ps x y z ≡ library qs x' y' z'
library_same ps qs x x' y y' z z' e1 e2 e3 e4 = cc
