-- What storing and deleting answer, and what a library means after them.
use Rattle.std.specs.Prelude.{ℕ, ◌+◌, ◌-◌, Bool, cond, ◌&&◌, List, [], ◌∷◌, ◌++◌, length, take, drop, is_some, Some, None, Option, nat_le}
use Rattle.refusal.specs.declared.Refusal.{Refusal}
use Rattle.refusal.specs.declared.Refusal.TheVariants.{Locked, ProgramPresent, ProgramAbsent, LibraryFull}
use Rattle.library.specs.declared.space.Space.{Space}
use Rattle.library.specs.Meaning.{NamedString, Program, Library, program_at, place}

-- the bytes of the names and bodies of strings
abbrev pub strings_bytes : List NamedString → ℕ
strings_bytes [] = 0
strings_bytes (s ∷ ss) = length s.name + length s.body + strings_bytes ss

-- the space that a program takes
abbrev pub space_of : Program → Space
space_of p = record { programs = 1; strings = length p.strings; bytes = length p.name + strings_bytes p.strings }

-- sums and differences of spaces, part by part
abbrev pub plus : Space → Space → Space
plus a b = record { programs = a.programs + b.programs; strings = a.strings + b.strings; bytes = a.bytes + b.bytes }

abbrev pub minus : Space → Space → Space
minus a b = record { programs = a.programs - b.programs; strings = a.strings - b.strings; bytes = a.bytes - b.bytes }

-- is there so much space?
abbrev pub fits : Space → Space → Bool
fits wanted left = nat_le wanted.programs left.programs && nat_le wanted.strings left.strings && nat_le wanted.bytes left.bytes

-- The questions, in their order: locked, present or absent, space.
abbrev pub store_refusal : Library → Program → Option Refusal
store_refusal l p =
    cond l.locked (Some Locked)
    (cond (is_some (place p.name l.programs)) (Some ProgramPresent)
    (cond (fits (space_of p) l.space) None (Some LibraryFull)))

abbrev pub delete_refusal : Library → List ℕ → Option Refusal
delete_refusal l n = cond l.locked (Some Locked) (cond (is_some (place n l.programs)) None (Some ProgramAbsent))

-- the program at the end, and its space taken
abbrev pub with_program : Library → Program → Library
with_program l p = record { programs = l.programs ++ p ∷ []; space = minus l.space (space_of p); locked = l.locked }

-- program k gone, and its space returned
abbrev pub without_place : Library → ℕ → Option Program → Library
without_place l k None = l
without_place l k (Some p) = record { programs = take k l.programs ++ drop (k + 1) l.programs; space = plus l.space (space_of p); locked = l.locked }

abbrev pub without_found : Library → Option ℕ → Library
without_found l None = l
without_found l (Some k) = without_place l k (program_at l.programs k)

-- the program of that name gone
abbrev pub without_program : Library → List ℕ → Library
without_program l n = without_found l (place n l.programs)
