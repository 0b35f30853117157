-- What the language's definition says of a built-in function, as one row of a table. Assumes nothing.
use Rattle.std.specs.Prelude.{ℕ, List}
use Rattle.machine.specs.declared.built_in.BuiltIn.{BuiltIn}
use Rattle.machine.specs.BuiltIns.{letters, least}

pub record Row : Type 0 where
  pub function : BuiltIn
  -- the Unicode numbers of the letters of its name
  pub letters : List ℕ
  -- the smallest number of parameters
  pub least : ℕ

abbrev pub row_of : BuiltIn → Row
row_of f = record { function = f; letters = letters f; least = least f }
