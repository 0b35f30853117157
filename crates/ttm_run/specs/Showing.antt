-- What the program shows of an image, and when it refuses it.
use Rattle.std.specs.Prelude.{ℕ, Bool, false, cond, List, [], ◌∷◌, codes, Option, ◌==◌}
use Rattle.code.specs.Ascii.{ascii}
use Rattle.code.specs.Ebcdic.{ebcdic}
use Rattle.refusal.specs.declared.Refusal.{Refusal}
use Rattle.image.specs.Questions.{image_refusal}
use Rattle.image.specs.Opening.{programs_of, image_library}
use Rattle.listing.specs.Listing.{listing}
use Rattle.listing.specs.Ascii.{ascii_glyph}
use Rattle.listing.specs.Ebcdic.{ebcdic_glyph}

-- an image names its code by its first byte; one that does not name EBCDIC is taken for ASCII
abbrev pub names_ebcdic : List ℕ → Bool
names_ebcdic [] = false
names_ebcdic (number ∷ rest) = number == 2

abbrev pub shown_image : List ℕ → List ℕ
shown_image image =
    cond (names_ebcdic image)
    (listing ebcdic (codes "EBCDIC") ebcdic_glyph (image_library (programs_of image)))
    (listing ascii (codes "ASCII") ascii_glyph (image_library (programs_of image)))

abbrev pub refused_image : List ℕ → Option Refusal
refused_image image = cond (names_ebcdic image) (image_refusal ebcdic image) (image_refusal ascii image)
