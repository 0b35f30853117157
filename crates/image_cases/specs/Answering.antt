-- What open answers to an image, in the words of the table.
use Rattle.std.specs.Prelude.{ℕ, List, ◌++◌, length, Some, None, codes, decimal, Option}
use Rattle.code.specs.Meaning.{CodeMeaning}
use Rattle.refusal.specs.declared.Refusal.{Refusal}
use Rattle.refusal.specs.Numbers.{number_of}
use Rattle.library.specs.Meaning.{Program, string_count}
use Rattle.image.specs.Questions.{image_refusal}
use Rattle.image.specs.Opening.{programs_of}

-- the refusal's number, or granted, with the counts of programs and of their strings
abbrev pub answer_of : Option Refusal → List Program → List ℕ
answer_of None ps = codes "granted:" ++ decimal (length ps) ++ codes ":" ++ decimal (string_count ps)
answer_of (Some refusal) ps = decimal (number_of refusal)

abbrev pub answer_to_image : CodeMeaning → List ℕ → List ℕ
answer_to_image code image = answer_of (image_refusal code image) (programs_of image)
