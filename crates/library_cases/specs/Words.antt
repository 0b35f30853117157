-- The words of a line. Assumes nothing.
use Rattle.std.specs.Prelude.{ℕ, cond, List, [], map, Some, None, codes, Option, ◌==◌}
use Rattle.std.specs.Borrow.{Bor}
use Rattle.std.specs.Str.{bytes_eq}
use Rattle.std.specs.List.{slice_split}
use Rattle.hex_text.specs.Hex.{unhexed}

-- what stands between the spaces of a line
abbrev pub words : List ℕ → List (List ℕ)
words line = slice_split (λ c. c == 32) line

-- what words of the code's hold
abbrev pub texts : List (Bor (List ℕ)) → List (List ℕ)
texts ws = map (λ (w : Bor (List ℕ)). w.now) ws

-- the bytes that a word stands for: `-` for none, else in hex
abbrev pub bytes_of : List ℕ → Option (List ℕ)
bytes_of w = cond (bytes_eq w (codes "-")) (Some []) (cond (bytes_eq w []) None (unhexed w))
