-- The first element that passes a test, and the row of a name.
use Rattle.std.proofs.Common.{◌≡◌, ℕ, zero, suc, ◌<◌, Bool, true, false, cond, ◌⊎◌, List, [], ◌∷◌, ◌++◌, length, set, take, Some, None, Option, sym, refl, ap, ◌∙◌, inl, inr, ⊎_elim, arith}
use Rattle.std.specs.List.{slice_get, remove}
use Rattle.std.specs.Option.{option_map}
use Rattle.std.specs.Str.{bytes_eq}
use Rattle.std.proofs.lemmas.Bool.{false≢true}
use Rattle.std.proofs.lemmas.Slice.Eq.{bytes_eq-Decides}
use Rattle.machine.specs.Texts.{Text, first_place}
use Rattle.machine.specs.Dictionary.{Row, Class, Meaning, in_rows, with_row, without_row, in_classes, with_class, without_class}
use Rattle.dictionary.specs.Finding.{row_named, class_named}
use Rattle.dictionary.specs.Editing.{row_of}

-- the first element of a list with a head: the head, or the first of the rest
pub record Head {X : Type 0} (f : X → Bool) (x : X) (i : ℕ) : Type 0 where
  pub passes : f x ≡ true
  pub place : i ≡ 0

pub record Later {X : Type 0} (f : X → Bool) (x : X) (xs : List X) (i : ℕ) : Type 0 where
  pub fails : f x ≡ false
  pub before : ℕ
  pub first : first_place f xs ≡ Some before
  pub place : i ≡ suc before

pub first_cases : {X : Type 0} (f : X → Bool) (x : X) (xs : List X) (i : ℕ) → first_place f (x ∷ xs) ≡ Some i → Head f x i ⊎ Later f x xs i
first_cases {X = X} f x xs i e = go (f x) refl (first_place f xs) refl e
  where
    go : (t : Bool) → f x ≡ t → (o : Option ℕ) → first_place f xs ≡ o → cond t (Some 0) (option_map suc o) ≡ Some i → Head f x i ⊎ Later f x xs i
    go true p o q w = let here : 0 ≡ i = cc in inl (record { passes = p; place = sym here })
    go false p None q w = cc
    go false p (Some k) q w = let here : suc k ≡ i = cc in inr (record { fails = p; before = k; first = q; place = sym here })

pub record NoneOf {X : Type 0} (f : X → Bool) (x : X) (xs : List X) : Type 0 where
  pub head : f x ≡ false
  pub rest : first_place f xs ≡ None

pub none_cases : {X : Type 0} (f : X → Bool) (x : X) (xs : List X) → first_place f (x ∷ xs) ≡ None → NoneOf f x xs
none_cases {X = X} f x xs e = go (f x) refl (first_place f xs) refl e
  where
    go : (t : Bool) → f x ≡ t → (o : Option ℕ) → first_place f xs ≡ o → cond t (Some 0) (option_map suc o) ≡ None → NoneOf f x xs
    go true p o q w = cc
    go false p None q w = record { head = p; rest = q }
    go false p (Some k) q w = cc

-- an element that passes, and none before it does
pub first_at : {X : Type 0} (f : X → Bool) (xs : List X) (i : ℕ) (x : X) → first_place f (take i xs) ≡ None → slice_get xs i ≡ Some x → f x ≡ true → first_place f xs ≡ Some i
first_at f [] i x none at p = cc
first_at f (y ∷ ys) zero x none at p =
    let here : f y ≡ true = ap f (let same : y ≡ x = cc in same) ∙ p in
    ap (λ t. cond t (Some 0) (option_map suc (first_place f ys))) here
first_at f (y ∷ ys) (suc k) x none at p =
    let before = none_cases f y (take k ys) none in
    ap (λ t. cond t (Some 0) (option_map suc (first_place f ys))) before.head
    ∙ ap (option_map suc) (first_at f ys k x before.rest at p)

-- one more that does not pass
pub none_more : {X : Type 0} (f : X → Bool) (xs : List X) (i : ℕ) (x : X) → first_place f (take i xs) ≡ None → slice_get xs i ≡ Some x → f x ≡ false → first_place f (take (suc i) xs) ≡ None
none_more f [] i x none at p = cc
none_more f (y ∷ ys) zero x none at p =
    let here : f y ≡ false = ap f (let same : y ≡ x = cc in same) ∙ p in
    ap (λ t. cond t (Some 0) None) here
none_more f (y ∷ ys) (suc k) x none at p =
    let before = none_cases f y (take k ys) none in
    ap (λ t. cond t (Some 0) (option_map suc (first_place f (take (suc k) ys)))) before.head
    ∙ ap (option_map suc) (none_more f ys k x before.rest at p)

-- Rows by their names.

abbrev meaning_of : Row → Meaning
meaning_of r = r.meaning

pub in_rows_at : (n : Text) (rs : List Row) (i : ℕ) → first_place (row_named n) rs ≡ Some i → in_rows n rs ≡ option_map meaning_of (slice_get rs i)
in_rows_at n [] i e = cc
in_rows_at n (r ∷ rs) i e =
    ⊎_elim
    (λ (h : Head (row_named n) r i). ap (λ t. cond t (Some r.meaning) (in_rows n rs)) h.passes ∙ ap (λ k. option_map meaning_of (slice_get (r ∷ rs) k)) (sym h.place))
    (λ (l : Later (row_named n) r rs i). ap (λ t. cond t (Some r.meaning) (in_rows n rs)) l.fails ∙ in_rows_at n rs l.before l.first ∙ ap (λ k. option_map meaning_of (slice_get (r ∷ rs) k)) (sym l.place))
    (first_cases (row_named n) r rs i e)

pub in_rows_none : (n : Text) (rs : List Row) → first_place (row_named n) rs ≡ None → in_rows n rs ≡ None
in_rows_none n [] e = refl
in_rows_none n (r ∷ rs) e =
    let none = none_cases (row_named n) r rs e in
    ap (λ t. cond t (Some r.meaning) (in_rows n rs)) none.head ∙ in_rows_none n rs none.rest

pub with_row_at : (n : Text) (m : Meaning) (rs : List Row) (i : ℕ) → first_place (row_named n) rs ≡ Some i → with_row n m rs ≡ set rs i (row_of n m)
with_row_at n m [] i e = cc
with_row_at n m (r ∷ rs) i e =
    ⊎_elim
    (λ (h : Head (row_named n) r i). ap (λ t. cond t (row_of n m ∷ rs) (r ∷ with_row n m rs)) h.passes ∙ ap (λ k. set (r ∷ rs) k (row_of n m)) (sym h.place))
    (λ (l : Later (row_named n) r rs i). ap (λ t. cond t (row_of n m ∷ rs) (r ∷ with_row n m rs)) l.fails ∙ ap (λ x. r ∷ x) (with_row_at n m rs l.before l.first) ∙ ap (λ k. set (r ∷ rs) k (row_of n m)) (sym l.place))
    (first_cases (row_named n) r rs i e)

pub with_row_new : (n : Text) (m : Meaning) (rs : List Row) → first_place (row_named n) rs ≡ None → with_row n m rs ≡ rs ++ row_of n m ∷ []
with_row_new n m [] e = refl
with_row_new n m (r ∷ rs) e =
    let none = none_cases (row_named n) r rs e in
    ap (λ t. cond t (row_of n m ∷ rs) (r ∷ with_row n m rs)) none.head ∙ ap (λ x. r ∷ x) (with_row_new n m rs none.rest)

pub without_row_at : (n : Text) (rs : List Row) (i : ℕ) → first_place (row_named n) rs ≡ Some i → without_row n rs ≡ remove rs i
without_row_at n [] i e = cc
without_row_at n (r ∷ rs) i e =
    ⊎_elim
    (λ (h : Head (row_named n) r i). ap (λ t. cond t rs (r ∷ without_row n rs)) h.passes ∙ ap (λ k. remove (r ∷ rs) k) (sym h.place))
    (λ (l : Later (row_named n) r rs i). ap (λ t. cond t rs (r ∷ without_row n rs)) l.fails ∙ ap (λ x. r ∷ x) (without_row_at n rs l.before l.first) ∙ ap (λ k. remove (r ∷ rs) k) (sym l.place))
    (first_cases (row_named n) r rs i e)

pub without_row_none : (n : Text) (rs : List Row) → first_place (row_named n) rs ≡ None → without_row n rs ≡ rs
without_row_none n [] e = refl
without_row_none n (r ∷ rs) e =
    let none = none_cases (row_named n) r rs e in
    ap (λ t. cond t rs (r ∷ without_row n rs)) none.head ∙ ap (λ x. r ∷ x) (without_row_none n rs none.rest)

-- what is found first passes
pub first_passes : {X : Type 0} (f : X → Bool) (xs : List X) (i : ℕ) (x : X) → first_place f xs ≡ Some i → slice_get xs i ≡ Some x → f x ≡ true
first_passes f [] i x e at = cc
first_passes {X = X} f (y ∷ ys) i x e at =
    ⊎_elim
    (λ (h : Head f y i). let here : y ≡ x = head (slice_at h.place) in ap f (sym here) ∙ h.passes)
    (λ (l : Later f y ys i). first_passes f ys l.before x l.first (slice_at l.place))
    (first_cases f y ys i e)
  where
    slice_at : {k : ℕ} → i ≡ k → slice_get (y ∷ ys) k ≡ Some x
    slice_at {k} same = ap (slice_get (y ∷ ys)) (sym same) ∙ at

    head : slice_get (y ∷ ys) 0 ≡ Some x → y ≡ x
    head h = cc

-- one that passes comes behind others that do not
pub first_last : {X : Type 0} (f : X → Bool) (xs : List X) (x : X) → first_place f xs ≡ None → f x ≡ true → first_place f (xs ++ x ∷ []) ≡ Some (length xs)
first_last f [] x none p = ap (λ t. cond t (Some 0) None) p
first_last f (y ∷ ys) x none p =
    let before = none_cases f y ys none in
    ap (λ t. cond t (Some 0) (option_map suc (first_place f (ys ++ x ∷ [])))) before.head
    ∙ ap (option_map suc) (first_last f ys x before.rest p)

pub same_name : (n : Text) (m : Meaning) → row_named n (row_of n m) ≡ true
same_name n m = (bytes_eq-Decides n n).1 refl

-- defining a name twice
pub with_row_twice : (n : Text) (m k : Meaning) (rs : List Row) → with_row n m (with_row n k rs) ≡ with_row n m rs
with_row_twice n m k [] = ap (λ t. cond t (row_of n m ∷ []) (row_of n k ∷ row_of n m ∷ [])) (same_name n k)
with_row_twice n m k (r ∷ rs) = go (bytes_eq r.name n) refl (with_row_twice n m k rs)
  where
    go : (t : Bool) → bytes_eq r.name n ≡ t → with_row n m (with_row n k rs) ≡ with_row n m rs →
        with_row n m (cond t (row_of n k ∷ rs) (r ∷ with_row n k rs)) ≡ cond t (row_of n m ∷ rs) (r ∷ with_row n m rs)
    go true e h = ap (λ t. cond t (row_of n m ∷ rs) (row_of n k ∷ with_row n m rs)) (same_name n k)
    go false e h = ap (λ t. cond t (row_of n m ∷ with_row n k rs) (r ∷ with_row n m (with_row n k rs))) e ∙ ap (λ x. r ∷ x) h

-- Classes by their names.

abbrev class_of : Text → List Bool → Class
class_of n m = record { name = n; members = m }

abbrev members_of : Class → List Bool
members_of c = c.members

pub in_classes_at : (n : Text) (cs : List Class) (i : ℕ) → first_place (class_named n) cs ≡ Some i → in_classes n cs ≡ option_map members_of (slice_get cs i)
in_classes_at n [] i e = cc
in_classes_at n (c ∷ cs) i e =
    ⊎_elim
    (λ (h : Head (class_named n) c i). ap (λ t. cond t (Some c.members) (in_classes n cs)) h.passes ∙ ap (λ k. option_map members_of (slice_get (c ∷ cs) k)) (sym h.place))
    (λ (l : Later (class_named n) c cs i). ap (λ t. cond t (Some c.members) (in_classes n cs)) l.fails ∙ in_classes_at n cs l.before l.first ∙ ap (λ k. option_map members_of (slice_get (c ∷ cs) k)) (sym l.place))
    (first_cases (class_named n) c cs i e)

pub in_classes_none : (n : Text) (cs : List Class) → first_place (class_named n) cs ≡ None → in_classes n cs ≡ None
in_classes_none n [] e = refl
in_classes_none n (c ∷ cs) e =
    let none = none_cases (class_named n) c cs e in
    ap (λ t. cond t (Some c.members) (in_classes n cs)) none.head ∙ in_classes_none n cs none.rest

pub with_class_at : (n : Text) (m : List Bool) (cs : List Class) (i : ℕ) → first_place (class_named n) cs ≡ Some i → with_class n m cs ≡ set cs i (class_of n m)
with_class_at n m [] i e = cc
with_class_at n m (c ∷ cs) i e =
    ⊎_elim
    (λ (h : Head (class_named n) c i). ap (λ t. cond t (class_of n m ∷ cs) (c ∷ with_class n m cs)) h.passes ∙ ap (λ k. set (c ∷ cs) k (class_of n m)) (sym h.place))
    (λ (l : Later (class_named n) c cs i). ap (λ t. cond t (class_of n m ∷ cs) (c ∷ with_class n m cs)) l.fails ∙ ap (λ x. c ∷ x) (with_class_at n m cs l.before l.first) ∙ ap (λ k. set (c ∷ cs) k (class_of n m)) (sym l.place))
    (first_cases (class_named n) c cs i e)

pub with_class_new : (n : Text) (m : List Bool) (cs : List Class) → first_place (class_named n) cs ≡ None → with_class n m cs ≡ cs ++ class_of n m ∷ []
with_class_new n m [] e = refl
with_class_new n m (c ∷ cs) e =
    let none = none_cases (class_named n) c cs e in
    ap (λ t. cond t (class_of n m ∷ cs) (c ∷ with_class n m cs)) none.head ∙ ap (λ x. c ∷ x) (with_class_new n m cs none.rest)

pub without_class_at : (n : Text) (cs : List Class) (i : ℕ) → first_place (class_named n) cs ≡ Some i → without_class n cs ≡ remove cs i
without_class_at n [] i e = cc
without_class_at n (c ∷ cs) i e =
    ⊎_elim
    (λ (h : Head (class_named n) c i). ap (λ t. cond t cs (c ∷ without_class n cs)) h.passes ∙ ap (λ k. remove (c ∷ cs) k) (sym h.place))
    (λ (l : Later (class_named n) c cs i). ap (λ t. cond t cs (c ∷ without_class n cs)) l.fails ∙ ap (λ x. c ∷ x) (without_class_at n cs l.before l.first) ∙ ap (λ k. remove (c ∷ cs) k) (sym l.place))
    (first_cases (class_named n) c cs i e)

pub without_class_none : (n : Text) (cs : List Class) → first_place (class_named n) cs ≡ None → without_class n cs ≡ cs
without_class_none n [] e = refl
without_class_none n (c ∷ cs) e =
    let none = none_cases (class_named n) c cs e in
    ap (λ t. cond t cs (c ∷ without_class n cs)) none.head ∙ ap (λ x. c ∷ x) (without_class_none n cs none.rest)

-- what is found first is there
pub first_within : {X : Type 0} (f : X → Bool) (xs : List X) (i : ℕ) → first_place f xs ≡ Some i → i < length xs
first_within f [] i e = cc
first_within f (y ∷ ys) i e =
    ⊎_elim
    (λ (h : Head f y i). omega (arith, h.place))
    (λ (l : Later f y ys i). omega (arith, l.place, first_within f ys l.before l.first))
    (first_cases f y ys i e)

-- the first row of a name is that also once it means something else
pub first_kept : (n : Text) (m : Meaning) (rs : List Row) (i : ℕ) → first_place (row_named n) rs ≡ Some i → first_place (row_named n) (with_row n m rs) ≡ Some i
first_kept n m [] i e = cc
first_kept n m (r ∷ rs) i e = go (bytes_eq r.name n) refl (first_cases (row_named n) r rs i e) (λ k. first_kept n m rs k)
  where
    go : (t : Bool) → bytes_eq r.name n ≡ t → Head (row_named n) r i ⊎ Later (row_named n) r rs i → ((k : ℕ) → first_place (row_named n) rs ≡ Some k → first_place (row_named n) (with_row n m rs) ≡ Some k) → first_place (row_named n) (cond t (row_of n m ∷ rs) (r ∷ with_row n m rs)) ≡ Some i
    go true p (inl h) kept =
        ap (λ t. cond t (Some 0) (option_map suc (first_place (row_named n) rs))) (same_name n m) ∙ ap (λ k. Some k) (sym h.place)
    go true p (inr l) kept = absurd (false≢true (sym l.fails ∙ p))
    go false p (inl h) kept = absurd (false≢true (sym p ∙ h.passes))
    go false p (inr l) kept =
        ap (λ t. cond t (Some 0) (option_map suc (first_place (row_named n) (with_row n m rs)))) p
        ∙ ap (option_map suc) (kept l.before l.first) ∙ ap (λ k. Some k) (sym l.place)
