-- What opening an image comes to, by the questions and by the layout.
use Rattle.std.specs.Prelude.{◌≡◌, ℕ, ◌*◌, List, [], ◌∷◌, take, drop, Some, None, Option}
use Rattle.code.specs.Meaning.{CodeMeaning}
use Rattle.refusal.specs.declared.Refusal.{Refusal}
use Rattle.library.specs.Meaning.{Program, Library}
use Rattle.library.specs.Locked.{locked_library}
use Rattle.image.specs.Layout.{laid_out, KeepsRules}
use Rattle.image.specs.Contents.{programs_in}
use Rattle.image.specs.Questions.{image_refusal}

-- the programs that an image holds
abbrev pub programs_of : List ℕ → List Program
programs_of [] = []
programs_of (number ∷ []) = []
programs_of (number ∷ count ∷ rest) = programs_in count (take (25 * count) rest) (drop (25 * count) rest)

-- the library that an image of programs is: only read, so it is locked and has no space
abbrev pub image_library : List Program → Library
image_library ps = locked_library ps

-- What opening an image comes to, by the refusal, if there is one, and the library before and after.
pub record Opened (code : CodeMeaning) (image : List ℕ) (refused : Option Refusal) (before after : Library) : Type 0 where
  -- refused with exactly the first question that says no
  pub first_no : refused ≡ image_refusal code image
  -- if so it is as before
  pub kept : (r : Refusal) → refused ≡ Some r → after ≡ before
  -- if not it means the programs that the bytes hold
  pub held : refused ≡ None → after ≡ image_library (programs_of image)
  -- granted exactly when the bytes are the image of some programs that keep the rules, and then it means those programs
  pub granted : (ps : List Program) → KeepsRules code ps → image ≡ laid_out code ps → (refused ≡ None) × (after ≡ image_library ps)
  pub laid : refused ≡ None → (ps : List Program) × KeepsRules code ps × (image ≡ laid_out code ps) × (after ≡ image_library ps)

-- no two lists of programs that keep the rules have one image
abbrev pub LayoutIsUnique : Type 0
LayoutIsUnique = (code : CodeMeaning) (ps qs : List Program) → KeepsRules code ps → KeepsRules code qs →
    laid_out code ps ≡ laid_out code qs → ps ≡ qs
