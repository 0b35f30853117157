-- What a library of programs means: its programs in order, the space left, and whether it is locked.
use Rattle.std.specs.Prelude.{sum_by, ◌≡◌, ℕ, ◌+◌, ◌≤◌, Bool, cond, List, [], ◌∷◌, length, Some, None, Option}
use Rattle.std.specs.Option.{option_map}
use Rattle.std.specs.Str.{bytes_eq}
use Rattle.std.specs.List.{slice_get}
use Rattle.library.specs.declared.space.Space.{Space}

-- a string of a program: its name and its body
pub record NamedString : Type 0 where
  pub name : List ℕ
  pub body : List ℕ

-- a program: its name and its strings, in order
pub record Program : Type 0 where
  pub name : List ℕ
  pub strings : List NamedString

pub record Library : Type 0 where
  -- in the order in which they are found
  pub programs : List Program
  -- the space left
  pub space : Space
  -- a locked library stores and deletes nothing
  pub locked : Bool

-- program p, and string s of program p, counted from 0; None past the end
abbrev pub program_at : List Program → ℕ → Option Program
program_at ps p = slice_get ps p

-- the strings of a program; none past the last program
abbrev pub strings_of : Option Program → List NamedString
strings_of None = []
strings_of (Some p) = p.strings

abbrev pub string_at : List Program → ℕ → ℕ → Option NamedString
string_at ps p s = slice_get (strings_of (program_at ps p)) s

-- how many strings the programs have together
abbrev pub string_count : List Program → ℕ
string_count ps = sum_by (λ (p : Program). length p.strings) ps

-- the name of program p
abbrev pub name_at : List Program → ℕ → Option (List ℕ)
name_at ps p = option_map (λ (q : Program). q.name) (program_at ps p)

-- the place of the first program of a name; None where there is none
abbrev pub place : List ℕ → List Program → Option ℕ
place n [] = None
place n (p ∷ ps) = cond (bytes_eq p.name n) (Some 0) (option_map (λ k. k + 1) (place n ps))

-- 1 to 20 bytes long
abbrev pub NameLength : List ℕ → Type 0
NameLength n = (1 ≤ length n) × (length n ≤ 20)

-- program names are 1 to 20 bytes long
abbrev pub NamesFit : List Program → Type 0
NamesFit ps = (k : ℕ) (n : List ℕ) → name_at ps k ≡ Some n → NameLength n

-- there are programs j and k, and they have one name
pub record SameName (ps : List Program) (j k : ℕ) : Type 0 where
  pub name : List ℕ
  pub at_j : name_at ps j ≡ Some name
  pub at_k : name_at ps k ≡ Some name

-- programs that have one name are one program
abbrev pub NamesDistinct : List Program → Type 0
NamesDistinct ps = (j k : ℕ) → SameName ps j k → j ≡ k

-- the laws that every library keeps
pub record Lawful (ps : List Program) : Type 0 where
  pub fit : NamesFit ps
  pub distinct : NamesDistinct ps
