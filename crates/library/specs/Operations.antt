-- Stores and deletes, one after another, refused ones included.
use Rattle.std.specs.Prelude.{ℕ, ◌+◌, cond, List, [], ◌∷◌, is_some, Option}
use Rattle.refusal.specs.Outcome.{kept_or}
use Rattle.refusal.specs.declared.Refusal.{Refusal}
use Rattle.library.specs.declared.program_name.ProgramName.{ProgramName}
use Rattle.library.specs.declared.request.Request.{Request}
use Rattle.library.specs.declared.request.Request.TheVariants.{Store, Delete}
use Rattle.library.specs.Meaning.{NamedString, Program, Library}
use Rattle.library.specs.Name.{name_bytes}
use Rattle.library.specs.Keeping.{store_refusal, delete_refusal, with_program, without_program}

pub data Operation : Type 0 where
  store : Program → Operation
  -- the program of that name
  delete : List ℕ → Operation

-- the program that a name and strings make
abbrev pub program_of : ProgramName → List NamedString → Program
program_of name strings = record { name = name_bytes name; strings = strings }

-- the operation that a request asks for; `strings` says which strings an S hands over
abbrev pub operation : {S : Type 0} → (S → List NamedString) → Request S → Operation
operation strings (Store name s) = store (program_of name (strings s))
operation strings (Delete name) = delete (name_bytes name)

-- why an operation is refused, if it is
abbrev pub refusal_of : Library → Operation → Option Refusal
refusal_of l (store p) = store_refusal l p
refusal_of l (delete n) = delete_refusal l n

-- what an operation leaves that is not refused
abbrev pub done : Library → Operation → Library
done l (store p) = with_program l p
done l (delete n) = without_program l n

-- what any operation leaves: a refused one changes nothing
abbrev pub after : Library → Operation → Library
after l o = kept_or (refusal_of l o) (done l o) l

-- what they leave when each goes on from what the one before it left
abbrev pub after_all : Library → List Operation → Library
after_all l [] = l
after_all l (o ∷ os) = after_all (after l o) os

-- how many of them are refused
abbrev pub refusals : Library → List Operation → ℕ
refusals l [] = 0
refusals l (o ∷ os) = cond (is_some (refusal_of l o)) 1 0 + refusals (after l o) os
