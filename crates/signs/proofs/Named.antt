-- Each of a list of named characters is named, and is spelled in its place.
use Rattle.std.proofs.Common.{◌≡◌, ℕ, Bool, ◌&&◌, suc, ◌<◌, true, List, [], ◌∷◌, length, map, get_or, Some, refl, sym, ap, ◌∙◌, arith}
use Rattle.std.proofs.lemmas.Bool.{and_parts}
use Rattle.std.specs.Array.{list_steps}
use Rattle.std.specs.Iterator.{Yields}
use Rattle.code.specs.Meaning.{named_char}

-- are all of them named?
abbrev all_named : List ℕ → Bool
all_named [] = true
all_named (c ∷ cs) = named_char c && all_named cs

-- the next one, after those that are gone through
pub next_named : (all gone left : List ℕ) (c : ℕ) (rest : List ℕ) → all_named all ≡ true → Yields list_steps all gone left → list_steps left (Some c) rest → named_char c ≡ true
next_named all [] left c rest h here next = (and_parts (named_char c) (all_named rest) (sym (ap all_named (here ∙ next)) ∙ h)).0
next_named all (d ∷ ds) left c rest h y next = next_named y.0 ds left c rest (and_parts (named_char d) (all_named y.0) (sym (ap all_named y.1) ∙ h)).1 y.2 next

-- a list whose elements are those of another under f
pub mapped : (f : ℕ → ℕ) (xs ys : List ℕ) → length ys ≡ length xs → ((k : ℕ) → k < length xs → get_or ys k 0 ≡ f (get_or xs k 0)) → ys ≡ map f xs
mapped f [] [] e each = refl
mapped f [] (y ∷ ys) e each = absurd (omega arith)
mapped f (x ∷ xs) [] e each = absurd (omega arith)
mapped f (x ∷ xs) (y ∷ ys) e each =
    let first : y ≡ f x = each 0 (omega arith) in
    let rest = mapped f xs ys (omega arith) (λ k l. each (suc k) (omega arith)) in
    rw (first, rest)
