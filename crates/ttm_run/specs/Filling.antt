-- A library filled with the programs of another; a draft is stored among them and deleted again.
use Rattle.std.specs.Prelude.{◌≡◌, ℕ, List, [], ◌∷◌, ◌++◌, length, None}
use Rattle.library.specs.Meaning.{Program, Library}
use Rattle.library.specs.Operations.{Operation, store, delete}
use Rattle.exchange.specs.Stopping.{first_refusal, until_refused}
use Rattle.std.specs.List.{between}
use Rattle.exchange.specs.Copying.{stores}

-- the programs before the middle are stored, then the draft, then those after it, and the draft is deleted
abbrev pub filling : ℕ → Program → List Program → List Operation
filling middle draft ps =
    stores (between 0 middle ps) ++ (store draft ∷ []) ++ stores (between middle (length ps) ps) ++ (delete draft.name ∷ [])

-- Where nothing is refused, the library has the programs that it had and then those of the other, and nothing of the draft.
abbrev pub DraftLeavesNothing : Type 0
DraftLeavesNothing = (l : Library) (middle : ℕ) (draft : Program) (ps : List Program) →
    first_refusal l (filling middle draft ps) ≡ None → (until_refused l (filling middle draft ps)).programs ≡ l.programs ++ ps
