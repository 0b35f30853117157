-- The laws of storing and deleting.
use Rattle.std.specs.Prelude.{◌≡◌, ℕ, List, [], ◌∷◌, length, Some, None}
use Rattle.library.specs.declared.space.Space.{Space}
use Rattle.library.specs.Meaning.{Program, Library, Lawful, NameLength, place, program_at}
use Rattle.library.specs.Keeping.{store_refusal, delete_refusal, with_program, without_program, space_of, plus}
use Rattle.library.specs.Locked.{no_space}
use Rattle.library.specs.Operations.{Operation, after_all}

-- 1. Names stay distinct and 1 to 20 bytes long when a program with a name of such a length is stored ..
abbrev pub LawfulAfterStore : Type 0
LawfulAfterStore = (l : Library) (p : Program) → Lawful l.programs → NameLength p.name → store_refusal l p ≡ None → Lawful (with_program l p).programs

-- .. and when a program is deleted.
abbrev pub LawfulAfterDelete : Type 0
LawfulAfterDelete = (l : Library) (n : List ℕ) → Lawful l.programs → Lawful (without_program l n).programs

-- the space that programs take
abbrev pub taken : List Program → Space
taken [] = no_space
taken (p ∷ ps) = plus (space_of p) (taken ps)

-- the space left and the space taken
abbrev pub whole_space : Library → Space
whole_space l = plus l.space (taken l.programs)

-- 2. Over any stores and deletes, the space left and the space taken are together the same.
abbrev pub SpaceIsKept : Type 0
SpaceIsKept = (l : Library) (os : List Operation) → whole_space (after_all l os) ≡ whole_space l

-- 3. What was stored can be deleted, and the library is then as it was.
abbrev pub DeleteUndoesStore : Type 0
DeleteUndoesStore = (l : Library) (p : Program) → store_refusal l p ≡ None → (delete_refusal (with_program l p) p.name ≡ None) × (without_program (with_program l p) p.name ≡ l)

-- asked for by its name, program p is found at place k, and p is read there
pub record StandsAt (k : ℕ) (l : Library) (p : Program) : Type 0 where
  pub found : place p.name l.programs ≡ Some k
  pub read : program_at l.programs k ≡ Some p

-- 4. What was stored is found by its name, at the end, and reads back.
abbrev pub StoredIsFound : Type 0
StoredIsFound = (l : Library) (p : Program) → store_refusal l p ≡ None → StandsAt (length l.programs) (with_program l p) p
