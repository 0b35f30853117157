-- A draft that is stored and deleted leaves nothing behind.
use Rattle.std.proofs.Common.{◌≡◌, ℕ, suc, ◌+◌, ◌-◌, Bool, true, false, cond, List, [], ◌∷◌, ◌++◌, length, take, drop, Some, None, Option, refl, ap, ◌∙◌, append_assoc, add-one, arith, length-drop}
use Rattle.std.specs.Option.{option_map}
use Rattle.std.specs.Str.{bytes_eq}
use Rattle.std.proofs.lemmas.List.{take_all, take-append-drop}
use Rattle.std.proofs.lemmas.Slice.Eq.{bytes_eq-Decides}
use Rattle.refusal.specs.Outcome.{kept_or}
use Rattle.refusal.specs.declared.Refusal.{Refusal}
use Rattle.library.specs.Meaning.{Program, Library, place, program_at}
use Rattle.library.specs.Keeping.{store_refusal, delete_refusal, with_program, without_program, without_found, without_place}
use Rattle.library.specs.Operations.{store, delete}
use Rattle.library.proofs.Storing.{storable}
use Rattle.std.specs.Option.{option_or}
use Rattle.exchange.specs.Stopping.{first_refusal, until_refused}
use Rattle.std.specs.List.{between}
use Rattle.exchange.specs.Copying.{stores}
use Rattle.exchange.proofs.Stopping.{both_pass}
use Rattle.exchange.proofs.InTurn.{stored_in_order}
use Rattle.ttm_run.specs.Filling.{DraftLeavesNothing}

-- a program between others, whose name none before it has: where it is found ..
place_in : (xs ys : List Program) (p : Program) → place p.name xs ≡ None → place p.name (xs ++ p ∷ ys) ≡ Some (length xs)
place_in [] ys p absent = simp ((bytes_eq-Decides p.name p.name).1 refl)
place_in (q ∷ xs) ys p absent =
    step (bytes_eq q.name p.name) (place p.name xs) _ (length xs) absent (place_in xs ys p)
  where
    step : (t : Bool) (x y : Option ℕ) (k : ℕ) → cond t (Some 0) (option_map (λ j. j + 1) x) ≡ None → (x ≡ None → y ≡ Some k) → cond t (Some 0) (option_map (λ j. j + 1) y) ≡ Some (suc k)
    step true x y k e f = cc
    step false (Some j) y k e f = cc
    step false None y k e f = ap (option_map (λ j. j + 1)) (f refl) ∙ ap (λ (j : ℕ). Some j) (add-one k)

-- .. what is read there ..
read_in : (xs ys : List Program) (p : Program) → program_at (xs ++ p ∷ ys) (length xs) ≡ Some p
read_in [] ys p = refl
read_in (q ∷ xs) ys p = read_in xs ys p

-- .. and what is left without it
cut_in : (xs ys : List Program) (p : Program) → take (length xs) (xs ++ p ∷ ys) ++ drop (length xs + 1) (xs ++ p ∷ ys) ≡ xs ++ ys
cut_in xs ys p = rw (add-one (length xs)) (go xs)
  where
    go : (xs : List Program) → take (length xs) (xs ++ p ∷ ys) ++ drop (suc (length xs)) (xs ++ p ∷ ys) ≡ xs ++ ys
    go [] = refl
    go (q ∷ xs) = ap (λ (zs : List Program). q ∷ zs) (go xs)

without_one : (l : Library) (xs ys : List Program) (p : Program) → l.programs ≡ xs ++ p ∷ ys → place p.name xs ≡ None → (without_program l p.name).programs ≡ xs ++ ys
without_one l xs ys p is absent =
    ap (λ (o : Option ℕ). (without_found l o).programs) (ap (place p.name) is ∙ place_in xs ys p absent)
    ∙ ap (λ (o : Option Program). (without_place l (length xs) o).programs) (ap (λ (ps : List Program). program_at ps (length xs)) is ∙ read_in xs ys p)
    ∙ ap (λ (ps : List Program). take (length xs) ps ++ drop (length xs + 1) ps) is
    ∙ cut_in xs ys p

-- one operation that is not refused
alone : {X : Type 0} (a : Option Refusal) (new old : X) → option_or a None ≡ None → (a ≡ None) × (kept_or a new old ≡ new)
alone None new old e = (refl, refl)
alone (Some r) new old e = (e, cc)

-- the programs before the middle and those after it
halves : (middle : ℕ) (ps : List Program) → between 0 middle ps ++ between middle (length ps) ps ≡ ps
halves middle ps =
    let all : take (length ps - middle) (drop middle ps) ≡ drop middle ps = take_all (length ps - middle) (drop middle ps) (simp length-drop (omega arith)) in
    let whole : middle - 0 ≡ middle = omega arith in
    ap (λ (k : ℕ). take k ps ++ between middle (length ps) ps) whole ∙ ap (λ (zs : List Program). take middle ps ++ zs) all ∙ take-append-drop middle ps

pub draft_leaves_nothing : DraftLeavesNothing
draft_leaves_nothing l middle draft ps e =
    let before = between 0 middle ps in
    let after = between middle (length ps) ps in
    let last = both_pass l (stores before ++ (store draft ∷ []) ++ stores after) (delete draft.name ∷ []) e in
    let rest = both_pass l (stores before ++ (store draft ∷ [])) (stores after) last.first in
    let first = both_pass l (stores before) (store draft ∷ []) rest.first in
    go before after (until_refused l (stores before)) (until_refused l (stores before ++ (store draft ∷ []))) (until_refused l (stores before ++ (store draft ∷ []) ++ stores after)) _
    (stored_in_order l before first.first)
    first.second first.leaves (ap (λ (m : Library). m.programs) rest.leaves ∙ stored_in_order _ after rest.second) last.second last.leaves
    ∙ ap (λ (xs : List Program). l.programs ++ xs) (halves middle ps)
  where
    -- l₁ has the programs before, l₂ also the draft, l₃ also those after, l₄ no draft
    go : (before after : List Program) (l₁ l₂ l₃ l₄ : Library) → l₁.programs ≡ l.programs ++ before
        → first_refusal l₁ (store draft ∷ []) ≡ None → l₂ ≡ until_refused l₁ (store draft ∷ [])
        → l₃.programs ≡ l₂.programs ++ after
        → first_refusal l₃ (delete draft.name ∷ []) ≡ None → l₄ ≡ until_refused l₃ (delete draft.name ∷ [])
        → l₄.programs ≡ l.programs ++ (before ++ after)
    go before after l₁ l₂ l₃ l₄ first come with-draft rest gone without-draft =
        let stored = alone (store_refusal l₁ draft) (with_program l₁ draft) l₁ come in
        let deleted = alone (delete_refusal l₃ draft.name) (without_program l₃ draft.name) l₃ gone in
        let all : l₃.programs ≡ l₁.programs ++ draft ∷ after = rest ∙ ap (λ (m : Library). m.programs ++ after) (with-draft ∙ stored.1) ∙ append_assoc l₁.programs (draft ∷ []) after in
        ap (λ (m : Library). m.programs) (without-draft ∙ deleted.1)
        ∙ without_one l₃ l₁.programs after draft all (storable l₁ draft stored.0).absent
        ∙ ap (λ (xs : List Program). xs ++ after) first
        ∙ append_assoc l.programs before after
