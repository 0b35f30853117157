-- The letters of names that the table may have. Assumes nothing.
use Rattle.std.specs.Prelude.{ℕ, cond}
use Rattle.code.specs.Meaning.{within}

-- A to Z as they are, and the question mark for all else
abbrev pub letter_or_question : ℕ → ℕ
letter_or_question l = cond (within 65 90 l) l 63
