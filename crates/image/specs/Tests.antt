-- Tests over lists. Assumes nothing.
use Rattle.std.specs.Prelude.{ℕ, Bool, true, false, List, [], ◌∷◌}
use Rattle.std.specs.List.{list_any}
use Rattle.std.specs.Str.{bytes_eq}

abbrev pub not_empty : {X : Type 0} → List X → Bool
not_empty [] = false
not_empty (x ∷ xs) = true

-- is the name the first of these, or one of these?
abbrev pub first_is : List ℕ → List (List ℕ) → Bool
first_is n [] = false
first_is n (m ∷ ms) = bytes_eq m n

abbrev pub among : List ℕ → List (List ℕ) → Bool
among n ms = list_any (λ m. bytes_eq m n) ms
