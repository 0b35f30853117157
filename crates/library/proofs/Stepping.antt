-- A step of an iterator through a list by places.
use Rattle.std.proofs.Common.{◌≡◌, ℕ, ◌+◌, ◌-◌, ◌<◌, List, [], ◌∷◌, length, drop, Some, None, MatchOption, Option, ⊎_elim, sym, ap, ◌∙◌, arith}
use Rattle.std.specs.Option.{option_map}
use Rattle.std.specs.List.{slice_get}
use Rattle.std.proofs.lemmas.List.{drop_more}
use Rattle.std.proofs.lemmas.Option.{get_or_from_slice_get, slice_get_cases, slice_get_within}

-- the element at place i comes first of those that are left there
pub first_left : {X : Type 0} (xs : List X) (i : ℕ) (x : X) → slice_get xs i ≡ Some x → drop i xs ≡ x ∷ drop (i + 1) xs
first_left xs i x e =
    drop_more xs i x (slice_get_within xs i x e)
    ∙ ap (λ y. y ∷ drop (i + 1) xs) (get_or_from_slice_get xs i x x e)

-- what is shown of the element at place p, the next before the end, comes first of those that are left
pub stepped : {A B : Type 0} (view : A → B) (xs : List B) (i p j end : ℕ) (r : Option A) → option_map view r ≡ slice_get xs p → end ≡ length xs → 0 < end - i → p ≡ i → j ≡ i + 1 → MatchOption r ((drop i xs ≡ []) × (drop j xs ≡ [])) (λ x. drop i xs ≡ view x ∷ drop j xs)
stepped view xs i p j end (Some x) e long more at next =
    first_left xs i (view x) (ap (slice_get xs) (sym at) ∙ sym e) ∙ ap (λ (k : ℕ). view x ∷ drop k xs) (sym next)
stepped view xs i p j end None e long more at next =
    absurd (⊎_elim (λ there. let found = there.2 in cc) (λ past. omega (arith, past.0)) (slice_get_cases xs p).1)
