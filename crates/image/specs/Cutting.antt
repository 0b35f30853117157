-- An image in two parts: the rows of its entries, and its texts.
use Rattle.std.specs.Prelude.{◌≡◌, ℕ, true, List, length, ◌==◌}
use Rattle.std.specs.List.{list_all}
use Rattle.code.specs.Meaning.{CodeMeaning}
use Rattle.image.specs.Layout.{Entry}
use Rattle.image.specs.Contents.{entries_of_rows, programs_of_rows}
use Rattle.image.specs.Questions.{contents_refusal, image_refusal}
use Rattle.image.specs.Opening.{programs_of}

pub record IsCut (code : CodeMeaning) (image : List ℕ) (rows : List (List ℕ)) (texts : List ℕ) : Type 0 where
  -- the questions that are left to ask are those to its contents
  pub asked : image_refusal code image ≡ contents_refusal code (entries_of_rows rows) texts
  -- its programs are those of its rows and texts
  pub held : programs_of image ≡ programs_of_rows rows texts
  -- each entry has the 20 bytes that begin with its program's name
  pub fields : list_all (λ (e : Entry). length e.program_field == 20) (entries_of_rows rows) ≡ true
