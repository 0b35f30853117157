-- The memory that strings need which are fetched.
use Rattle.std.specs.Prelude.{ℕ, ◌≤◌, List, length}
use Rattle.machine.specs.declared.amounts.Amounts.{Amounts}
use Rattle.dictionary.specs.declared.dictionary.Dictionary.{Dictionary}

-- a dictionary and its store have what may be needed within these bounds
pub record Suffices (d : Dictionary) (store : List ℕ) (b : Amounts) : Type 0 where
  pub whole : d.used ≤ length store
  pub names : b.names ≤ d.most_rows
  pub bytes : b.store ≤ length store
  pub small : b.store ≤ 32768
