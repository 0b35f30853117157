-- What is left of a text to be printed. Assumes nothing.
use Rattle.std.specs.Prelude.{ℕ, cond, [], ◌∷◌, Some, None, Option, ◌==◌}
use Rattle.machine.specs.Texts.{Text}
use Rattle.machine.specs.Functions.{lines}

-- the lines of a text, if one is left
abbrev pub lines_left : ℕ → Option Text → Text
lines_left e None = []
lines_left e (Some t) = lines e 132 t

-- the text to be printed behind a piece that these bytes follow
abbrev pub next_text : ℕ → Text → Option Text
next_text e [] = None
next_text e (b ∷ bs) = cond (b == e) (Some bs) (Some (b ∷ bs))
