-- What an opened image means.
use Rattle.std.specs.Prelude.{List, Ok, Err, Result}
use Rattle.refusal.specs.declared.Refusal.{Refusal}
use Rattle.library.specs.Meaning.{Program, Library}
use Rattle.image.specs.declared.granted.Image.{Image}
use Rattle.image.specs.Contents.{programs_of_rows}
use Rattle.image.specs.Opening.{image_library}

-- the programs that it holds
abbrev pub programs_held : Image → List Program
programs_held i = programs_of_rows i.contents.entries.now i.contents.texts.now

abbrev pub meaning_of : Image → Library
meaning_of i = image_library (programs_held i)

-- the library of the image that is opened, or the one before if it is refused
abbrev pub opened_or : Library → Result Image Refusal → Library
opened_or before (Ok image) = meaning_of image
opened_or before (Err refusal) = before
