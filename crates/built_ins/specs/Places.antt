-- The places of the built-in functions in the list of all of them. Assumes nothing.
use Rattle.std.specs.Prelude.{◌≡◌, ℕ, Some, slice_get}
use Rattle.machine.specs.declared.built_in.BuiltIn.{BuiltIn}
use Rattle.machine.specs.BuiltIns.{all_built_ins}

-- the function stands at this place
abbrev pub StandsAt : BuiltIn → ℕ → Type 0
StandsAt f i = slice_get all_built_ins i ≡ Some f

-- each place is one function's, and each function has one place
pub record PlacesDiffer : Type 0 where
  pub one_function : (f g : BuiltIn) (i : ℕ) → StandsAt f i → StandsAt g i → f ≡ g
  pub one_place : (f : BuiltIn) (i j : ℕ) → StandsAt f i → StandsAt f j → i ≡ j
