-- Passing characters: what one more byte takes.
use Rattle.std.proofs.Common.{◌≡◌, ℕ, zero, suc, ◌+◌, ◌-◌, ◌<◌, ◌≤◌, Bool, cond, [], ◌∷◌, length, drop, get_or, refl, ◌∙◌, arith}
use Rattle.std.proofs.lemmas.List.{at_drop_more, at_drop_all}
use Rattle.code.specs.Meaning.{marked}
use Rattle.machine.specs.Texts.{Text, Code}
use Rattle.machine.specs.Selection.{bytes_to_pass}

passed_nothing : (code : Code) (n : ℕ) → bytes_to_pass code n [] ≡ 0
passed_nothing code zero = refl
passed_nothing code (suc n) = refl

-- at the end of the text
pub passed_all : (code : Code) (n : ℕ) (t : Text) (i : ℕ) → length t ≤ i → bytes_to_pass code n (drop i t) ≡ 0
passed_all code n t i h = at_drop_all (bytes_to_pass code n) t i h ∙ passed_nothing code n

one_byte : (code : Code) (n : ℕ) (b : ℕ) (bs : Text) (r : Bool) → 0 < n → marked code b ≡ r
    → bytes_to_pass code n (b ∷ bs) ≡ 1 + cond r (bytes_to_pass code n bs) (bytes_to_pass code (n - 1) bs)
one_byte code zero b bs r h e = absurd (omega arith)
one_byte code (suc n) b bs r h e = let n_is : suc n - 1 ≡ n = omega arith in rw (e, n_is) (omega arith)

pub passed_more : (code : Code) (n : ℕ) (t : Text) (i : ℕ) (r : Bool) → i < length t → 0 < n → marked code (get_or t i 0) ≡ r
    → bytes_to_pass code n (drop i t) ≡ 1 + cond r (bytes_to_pass code n (drop (i + 1) t)) (bytes_to_pass code (n - 1) (drop (i + 1) t))
passed_more code n t i r h some e = at_drop_more (bytes_to_pass code n) t i 0 h ∙ one_byte code n (get_or t i 0) (drop (i + 1) t) r some e
