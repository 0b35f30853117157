-- Stores and deletes, one after another, up to the first that is refused.
use Rattle.std.specs.Prelude.{◌≡◌, List, [], ◌∷◌, None, Option}
use Rattle.std.specs.Option.{option_or}
use Rattle.refusal.specs.Outcome.{kept_or}
use Rattle.refusal.specs.declared.Refusal.{Refusal}
use Rattle.library.specs.Meaning.{Library}
use Rattle.library.specs.Operations.{Operation, refusal_of, done}

-- why the first that is refused is refused; None where none is
abbrev pub first_refusal : Library → List Operation → Option Refusal
first_refusal l [] = None
first_refusal l (o ∷ os) = option_or (refusal_of l o) (first_refusal (done l o) os)

-- what they leave: the refused one and those after it change nothing
abbrev pub until_refused : Library → List Operation → Library
until_refused l [] = l
until_refused l (o ∷ os) = kept_or (refusal_of l o) (until_refused (done l o) os) l

-- what the operations come to from a library on: the refusal, if there is one, and the library after
pub record ComesTo (before : Library) (os : List Operation) (refused : Option Refusal) (after : Library) : Type 0 where
  pub refusal : refused ≡ first_refusal before os
  pub left : after ≡ until_refused before os
