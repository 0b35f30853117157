-- Rows of a list that are read, and sums over them.
use Rattle.std.proofs.Common.{◌≡◌, ℕ, ◌+◌, List, [], ◌∷◌, ◌++◌, take, drop, Some, None, Bor, sym, refl, ap, ◌∙◌, take-add}
use Rattle.std.specs.List.{sum_by, slice_get}
use Rattle.std.proofs.lemmas.List.{take-append-drop, take_more}
use Rattle.std.proofs.lemmas.List.Sums.{sum_by-append, sum_by_push}
use Rattle.std.specs.Slice.{IsItemAt}
use Rattle.std.proofs.lemmas.Option.{slice_get_within, slice_get_past, slice_get_read, get_or_from_slice_get}

-- what `get` reads of the list ys
pub read_there : {X : Type 0} (xs ys : List X) (i : ℕ) (x : Bor X) → xs ≡ ys → IsItemAt xs i (Some x) → slice_get ys i ≡ Some x.now
read_there {X = X} xs ys i x same got = ap (λ (l : List X). slice_get l i) (sym same) ∙ slice_get_read xs _ i x.now refl got.3.0 got.1

pub read_past : {X : Type 0} (xs ys : List X) (i : ℕ) → xs ≡ ys → IsItemAt xs i None → slice_get ys i ≡ None
read_past {X = X} xs ys i same got = ap (λ (l : List X). slice_get l i) (sym same) ∙ slice_get_past xs i got.3

-- a front and the rest
pub sum_split : {X : Type 0} (f : X → ℕ) (n : ℕ) (xs : List X) → sum_by f xs ≡ sum_by f (take n xs) + sum_by f (drop n xs)
sum_split f n xs = ap (sum_by f) (sym (take-append-drop n xs)) ∙ sum_by-append f (take n xs) (drop n xs)

pub sum_part : {X : Type 0} (f : X → ℕ) (a b : ℕ) (xs : List X) → sum_by f (take (a + b) xs) ≡ sum_by f (take a xs) + sum_by f (take b (drop a xs))
sum_part f a b xs = ap (sum_by f) (take-add a b xs) ∙ sum_by-append f (take a xs) (take b (drop a xs))

-- one element more
pub take_nth : {X : Type 0} (xs : List X) (i : ℕ) (x : X) → slice_get xs i ≡ Some x → take (i + 1) xs ≡ take i xs ++ x ∷ []
take_nth {X = X} xs i x e =
    take_more xs i x (slice_get_within xs i x e)
    ∙ ap (λ (y : X). take i xs ++ y ∷ []) (get_or_from_slice_get xs i x x e)

pub sum_next : {X : Type 0} (f : X → ℕ) (xs : List X) (i : ℕ) (x : X) → slice_get xs i ≡ Some x → sum_by f (take (i + 1) xs) ≡ sum_by f (take i xs) + f x
sum_next f xs i x e = ap (sum_by f) (take_nth xs i x e) ∙ sum_by_push f (take i xs) x
