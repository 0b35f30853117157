-- Which of two texts is lower, by the order of their lists of ranks.
use Rattle.std.proofs.Common.{◌≡◌, ℕ, true, false, cond, nat_lt, [], ◌∷◌, map, refl, ap, ◌∙◌, arith}
use Rattle.std.specs.Ordering.{nat_cmp, is_lt, ordering_then}
use Rattle.std.specs.declared.cmp.Ordering.{Ordering}
use Rattle.std.specs.Cmp.Lexicographic.{slice_cmp}
use Rattle.std.proofs.lemmas.Bool.Decides.{nat_tests}
use Rattle.machine.specs.Texts.{Text, Code, rank_in, lower_text}

first_differs : (a b : ℕ) (o : Ordering) → is_lt (ordering_then (nat_cmp a b) o) ≡ cond (nat_lt a b) true (cond (nat_lt b a) false (is_lt o))
first_differs a b o = grind (arith, nat_tests)

pub lower_is : (code : Code) (one other : Text) → is_lt (slice_cmp nat_cmp (map (rank_in code) one) (map (rank_in code) other)) ≡ lower_text code one other
lower_is code [] [] = refl
lower_is code (a ∷ as') [] = refl
lower_is code [] (b ∷ bs) = refl
lower_is code (a ∷ as') (b ∷ bs) =
    first_differs (rank_in code a) (rank_in code b) _
    ∙ ap (λ r. cond (nat_lt (rank_in code a) (rank_in code b)) true (cond (nat_lt (rank_in code b) (rank_in code a)) false r)) (lower_is code as' bs)
