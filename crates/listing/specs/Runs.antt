-- Text that a function puts into a run of bytes. Assumes nothing.
use Rattle.std.specs.Prelude.{◌≡◌, ℕ, ◌+◌, ◌≤◌, List, ◌++◌, take}
use Rattle.std.specs.Str.{IsAscii}

-- The text stands behind what the run held before a place, and ends at another.
pub record Puts (before : List ℕ) (at : ℕ) (text after : List ℕ) (end : ℕ) : Type 0 where
  pub placed : take end after ≡ take at before ++ text
  pub ascii : IsAscii text
  pub short : end ≤ at + 5
