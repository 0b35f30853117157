-- Stores and deletes, one after another.
use Rattle.std.proofs.Common.{◌≡◌, ℕ, ◌+◌, ◌<◌, ◌≤◌, Bool, true, false, cond, List, [], ◌∷◌, ◌++◌, map, length, get_or, drop, is_some, is_err, Some, None, Ok, Err, Option, Result, sym, refl, ap, ◌∙◌, arith}
use Rattle.std.specs.Result.{result_err}
use Rattle.std.proofs.lemmas.List.{drop_more, at_drop_all, get_or-map, length-map}
use Rattle.refusal.specs.Outcome.{kept_or}
use Rattle.refusal.specs.declared.Refusal.{Refusal}
use Rattle.library.specs.Meaning.{Program, Library, place}
use Rattle.library.specs.Keeping.{store_refusal, delete_refusal, with_program, without_program, space_of, plus, minus}
use Rattle.library.specs.Operations.{Operation, store, delete, done, after, after_all, refusal_of, refusals}
use Rattle.library.specs.Laws.{taken, whole_space, SpaceIsKept}
use Rattle.library.proofs.Spaces.{plus_swap, spent}
use Rattle.library.proofs.Storing.{Storable, storable}
use Rattle.library.proofs.Deleting.{space_without}

-- a program more takes its space more
taken_push : (ps : List Program) (p : Program) → taken (ps ++ p ∷ []) ≡ plus (space_of p) (taken ps)
taken_push [] p = refl
taken_push (q ∷ ps) p =
    ap (plus (space_of q)) (taken_push ps p) ∙ plus_swap (space_of q) (space_of p) (taken ps)

-- one store or delete, refused or not
stays : (l : Library) (o : Operation) → whole_space (after l o) ≡ whole_space l
stays l (store p) = go (store_refusal l p) (storable l p)
  where
    go : (r : Option Refusal) → (r ≡ None → Storable l p) → whole_space (kept_or r (with_program l p) l) ≡ whole_space l
    go (Some refusal) f = refl
    go None f =
        ap (plus (minus l.space (space_of p))) (taken_push l.programs p)
        ∙ spent l.space (space_of p) (taken l.programs) (f refl).roomy
stays l (delete n) = go (delete_refusal l n)
  where
    go : (r : Option Refusal) → whole_space (kept_or r (without_program l n) l) ≡ whole_space l
    go (Some refusal) = refl
    go None = space_without l (place n l.programs)

pub space_is_kept : SpaceIsKept
space_is_kept l [] = refl
space_is_kept l (o ∷ os) = space_is_kept (after l o) os ∙ stays l o

-- After i operations, n of them refused: the rest gives from here what all of them give from the start.
pub record Underway (start here : Library) (os : List Operation) (i n : ℕ) : Type 0 where
  pub leads : after_all here (drop i os) ≡ after_all start os
  pub counts : n + refusals here (drop i os) ≡ refusals start os
  pub within : n ≤ i

-- one more, at place i of what f gives for xs
pub underway_more : {X : Type 0} (f : X → Operation) (xs : List X) (start l m : Library) (i n k : ℕ) (x : X) → i < length xs → x ≡ get_or xs i x → m ≡ after l (f x) → k ≡ n + cond (is_some (refusal_of l (f x))) 1 0 → Underway start l (map f xs) i n → Underway start m (map f xs) (i + 1) k
underway_more f xs start l m i n k x h is left counted u =
    let rest = drop (i + 1) (map f xs) in
    let next : drop i (map f xs) ≡ f x ∷ rest = drop_more (map f xs) i (f x) (simp length-map h) ∙ ap (λ (o : Operation). o ∷ rest) (get_or-map f xs i x (f x) h ∙ ap f (sym is)) in
    record {
      leads = ap (λ (y : Library). after_all y rest) left ∙ sym (ap (after_all l) next) ∙ u.leads;
      counts = omega (arith, ap (refusals l) next, ap (λ (y : Library). refusals y rest) left);
      within = omega (arith, at_most_one (is_some (refusal_of l (f x))));
    }
  where
    at_most_one : (b : Bool) → cond {A = ℕ} b 1 0 ≤ 1
    at_most_one true = omega arith
    at_most_one false = omega arith

-- after all of them
pub underway_all : (start here : Library) (os : List Operation) (i n : ℕ) → length os ≤ i → Underway start here os i n → (n ≡ refusals start os) × (here ≡ after_all start os)
underway_all start here os i n h u =
    (omega (arith, at_drop_all (refusals here) os i h), sym (at_drop_all (after_all here) os i h) ∙ u.leads)

-- a count that goes on by one where the answer r is a refusal
pub counted : (r : Result (Unit {0}) Refusal) (o : Option Refusal) (b t : Bool) (n k : ℕ) → result_err r ≡ o → b ≡ is_err r → b ≡ t → k ≡ n + cond t 1 0 → k ≡ n + cond (is_some o) 1 0
counted (Ok x) o b t n k e f h c = cc
counted (Err x) o b t n k e f h c = cc

-- what is told of the request y, of a request x that is y
pub carried : {X : Type 0} (f : X → Operation) (x y : X) (l m : Library) (r : Option Refusal) → x ≡ y → r ≡ refusal_of l (f y) → m ≡ kept_or r (done l (f y)) l → (r ≡ refusal_of l (f x)) × (m ≡ after l (f x))
carried f x y l m r is answer left =
    let same = ap f (sym is) in
    let told = answer ∙ ap (refusal_of l) same in
    (told, left ∙ ap (λ o. kept_or o (done l (f y)) l) told ∙ ap (λ (o : Operation). kept_or (refusal_of l (f x)) (done l o) l) same)
