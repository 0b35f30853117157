-- The programs of a library as stores in another.
use Rattle.std.specs.Prelude.{◌≡◌, List, [], ◌∷◌, ◌++◌, map, Some, None, Option}
use Rattle.library.specs.Meaning.{Program, Library}
use Rattle.library.specs.Operations.{Operation, store}
use Rattle.exchange.specs.Stopping.{first_refusal, until_refused}

abbrev pub stores : List Program → List Operation
stores ps = map store ps

-- the store of a program, if there is one
abbrev pub store_of : Option Program → List Operation
store_of None = []
store_of (Some p) = store p ∷ []

-- Programs that are stored and not refused stand behind those that were there, in their order.
abbrev pub StoredInOrder : Type 0
StoredInOrder = (l : Library) (ps : List Program) → first_refusal l (stores ps) ≡ None → (until_refused l (stores ps)).programs ≡ l.programs ++ ps
