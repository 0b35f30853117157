-- The demonstration: an image, and a locked shelf of the same programs.
use Rattle.std.specs.Prelude.{◌≡◌, ℕ, Bool, true, cond, List, [], ◌∷◌, ◌++◌, codes, Decides, Option}
use Rattle.code.specs.Ascii.{ascii}
use Rattle.refusal.specs.declared.Refusal.{Refusal}
use Rattle.library.specs.Meaning.{Program, Library}
use Rattle.library.specs.Locked.{locked_library}
use Rattle.image.specs.Questions.{image_refusal}
use Rattle.image.specs.Opening.{programs_of}
use Rattle.shelf.specs.Shelved.{empty_library}
use Rattle.std.specs.Option.{option_or}
use Rattle.exchange.specs.Stopping.{first_refusal}
use Rattle.listing.specs.Listing.{listing}
use Rattle.listing.specs.Ascii.{ascii_glyph}
use Rattle.ttm_run.specs.Filling.{filling}

-- the program that is stored among the others and deleted again
abbrev pub draft : Program
draft = record { name = codes "DRAFT"; strings = record { name = codes "DRAFT"; body = codes "to be deleted" } ∷ [] }

-- the refusal of the image, or else of the programs on the shelf
abbrev pub demonstration_refusal : List ℕ → Option Refusal
demonstration_refusal image = option_or (image_refusal ascii image) (first_refusal empty_library (filling 2 draft (programs_of image)))

abbrev pub shown : Library → List ℕ
shown l = listing ascii (codes "ASCII") ascii_glyph l

unfoldable pub verdict : Bool → List ℕ
verdict same =
    cond same (codes "image and locked shelf mean the same library: yes\n")
    (codes "image and locked shelf mean the same library: no\n")

unfoldable pub heading : List ℕ
heading = codes "the same programs on a shelf, with DRAFT stored among them and deleted again, then locked:\n"

-- two libraries listed, and the verdict, after a text
unfoldable pub shown_both : List ℕ → Library → Library → Bool → List ℕ
shown_both before l m same = before ++ shown l ++ heading ++ shown m ++ verdict same

-- the verdict is whether they are the same
pub record ShownBoth (before : List ℕ) (l m : Library) (text : List ℕ) : Type 0 where
  pub same : Bool
  pub decides : Decides same (l ≡ m)
  pub is : text ≡ shown_both before l m same

-- the library of an image, and that of the locked shelf, which is the same
abbrev pub shown_demonstration : List Program → List ℕ
shown_demonstration ps = shown_both [] (locked_library ps) (locked_library ps) true
