-- What storing a program brings, and that deleting it again undoes it.
use Rattle.std.proofs.Common.{◌≡◌, ℕ, zero, suc, ◌+◌, Bool, true, false, cond, ◌⊎◌, List, [], ◌∷◌, ◌++◌, length, take, drop, is_some, Some, None, Option, sym, refl, ap, ◌∙◌, subst, inl, inr, ⊎_elim, add-one, arith}
use Rattle.std.specs.Option.{option_map}
use Rattle.std.specs.Str.{bytes_eq}
use Rattle.std.proofs.lemmas.List.{append-nil, take_at, drop_all, length_push}
use Rattle.std.proofs.lemmas.Slice.Eq.{bytes_eq-Decides}
use Rattle.refusal.specs.Outcome.{kept_or}
use Rattle.refusal.specs.declared.Refusal.{Refusal}
use Rattle.refusal.specs.declared.Refusal.TheVariants.{Locked, ProgramPresent, LibraryFull}
use Rattle.library.specs.declared.space.Space.{Space}
use Rattle.library.specs.Meaning.{Program, Library, NameLength, place, name_at, program_at}
use Rattle.library.specs.Keeping.{store_refusal, delete_refusal, with_program, without_program, without_found, without_place, space_of, fits}
use Rattle.library.specs.Laws.{LawfulAfterStore, DeleteUndoesStore, StandsAt, StoredIsFound}
use Rattle.library.proofs.Places.{place_only}
use Rattle.library.proofs.Spaces.{returned}

-- what a store that is not refused has found
pub record Storable (l : Library) (p : Program) : Type 0 where
  pub unlocked : l.locked ≡ false
  pub absent : place p.name l.programs ≡ None
  pub roomy : fits (space_of p) l.space ≡ true

pub storable : (l : Library) (p : Program) → store_refusal l p ≡ None → Storable l p
storable l p e =
    let f = go l.locked (place p.name l.programs) (fits (space_of p) l.space) e in
    record { unlocked = f.0; absent = f.1; roomy = f.2 }
  where
    go : (k : Bool) (o : Option ℕ) (f : Bool) → cond k (Some Locked) (cond (is_some o) (Some ProgramPresent) (cond f None (Some LibraryFull))) ≡ None → (k ≡ false) × (o ≡ None) × (f ≡ true)
    go true o f e = (cc, cc, cc)
    go false (Some k) f e = (cc, cc, cc)
    go false None true e = (refl, refl, refl)
    go false None false e = (refl, refl, cc)

-- a program whose name is new is found at the end
place_push : (ps : List Program) (p : Program) → place p.name ps ≡ None → place p.name (ps ++ p ∷ []) ≡ Some (length ps)
place_push [] p absent = simp ((bytes_eq-Decides p.name p.name).1 refl)
place_push (q ∷ ps) p absent =
    step (bytes_eq q.name p.name) (place p.name ps) _ (length ps) absent (place_push ps p)
  where
    step : (t : Bool) (x y : Option ℕ) (k : ℕ) → cond t (Some 0) (option_map (λ j. j + 1) x) ≡ None → (x ≡ None → y ≡ Some k) → cond t (Some 0) (option_map (λ j. j + 1) y) ≡ Some (suc k)
    step true x y k e f = cc
    step false (Some j) y k e f = cc
    step false None y k e f = ap (option_map (λ j. j + 1)) (f refl) ∙ ap (λ (j : ℕ). Some j) (add-one k)

read_push : (ps : List Program) (p : Program) → program_at (ps ++ p ∷ []) (length ps) ≡ Some p
read_push [] p = refl
read_push (q ∷ ps) p = read_push ps p

pub stored_is_found : StoredIsFound
stored_is_found l p e =
    record { found = place_push l.programs p (storable l p e).absent; read = read_push l.programs p }

-- the same, of what a store tells: m is what it leaves, and k the number of programs before
pub stands : (l m : Library) (p : Program) (k : ℕ) → None ≡ store_refusal l p → m ≡ with_program l p → k ≡ length l.programs → StandsAt k m p
stands l m p k stored is count = simp (is, count) (stored_is_found l p (sym stored))

-- a name after a store is one from before, or the new one at the end
named_push : (ps : List Program) (p : Program) (k : ℕ) (n : List ℕ) → name_at (ps ++ p ∷ []) k ≡ Some n → (name_at ps k ≡ Some n) ⊎ ((k ≡ length ps) × (p.name ≡ n))
named_push [] p zero n e = inr (refl, cc)
named_push [] p (suc k) n e = inl e
named_push (q ∷ ps) p zero n e = inl e
named_push (q ∷ ps) p (suc k) n e =
    ⊎_elim (λ h. inl h) (λ h. inr (ap (λ (j : ℕ). suc j) h.0, h.1)) (named_push ps p k n e)

pub lawful_after_store : LawfulAfterStore
lawful_after_store l p lawful long e = record {
  fit = λ k n named. ⊎_elim (lawful.fit k n) (λ h. subst NameLength h.1 long) (named_push ps p k n named);
  distinct = λ j k same. one j k same.name (named_push ps p j _ same.at_j) (named_push ps p k _ same.at_k);
}
  where
    ps : List Program
    ps = l.programs

    new : (k : ℕ) → name_at ps k ≡ Some p.name → ⊥
    new k named =
        let there = place_only p.name ps None (sym (storable l p e).absent) lawful k named in
        let z : ◌≡◌ {A = ℕ} 0 1 = cc in omega arith

    one : (j k : ℕ) (n : List ℕ) → (name_at ps j ≡ Some n) ⊎ ((j ≡ length ps) × (p.name ≡ n)) → (name_at ps k ≡ Some n) ⊎ ((k ≡ length ps) × (p.name ≡ n)) → j ≡ k
    one j k n (inl a) (inl b) = lawful.distinct j k (record { name = n; at_j = a; at_k = b })
    one j k n (inl a) (inr b) = absurd (new j (cc))
    one j k n (inr a) (inl b) = absurd (new k (cc))
    one j k n (inr a) (inr b) = cc

pub delete_undoes_store : DeleteUndoesStore
delete_undoes_store l p e =
    let s = storable l p e in
    let f = stored_is_found l p e in
    let stored = with_program l p in (
      simp (s.unlocked, f.found),
      ap (without_found stored) f.found
          ∙ ap (without_place stored (length l.programs)) f.read
          ∙ same_library _ l.programs _ l.space l.locked (cut l.programs) (returned l.space (space_of p) s.roomy),
    )
  where
    same_library : (ps qs : List Program) (s t : Space) (k : Bool) → ps ≡ qs → s ≡ t → ◌≡◌ {A = Library} (record { programs = ps; space = s; locked = k }) (record { programs = qs; space = t; locked = k })
    same_library ps qs s t k a b = cc

    cut : (ps : List Program) → take (length ps) (ps ++ p ∷ []) ++ drop (length ps + 1) (ps ++ p ∷ []) ≡ ps
    cut ps =
        simp (take_at ps (p ∷ []) (length ps) refl, drop_all (length ps + 1) (ps ++ p ∷ []) (omega (arith, length_push ps p)), append-nil)

-- the same, of what a store and then a delete tell: r is the answer, and m and n are what they leave
pub undone : (l m n : Library) (p : Program) (r : Option Refusal) → None ≡ store_refusal l p → m ≡ with_program l p → r ≡ delete_refusal m p.name → n ≡ kept_or r (without_program m p.name) m → (r ≡ store_refusal l p) × (n ≡ l)
undone l m n p r stored is answer left =
    let back = delete_undoes_store l p (sym stored) in
    let passed : r ≡ None = answer ∙ ap (λ (x : Library). delete_refusal x p.name) is ∙ back.0 in (
      passed ∙ stored,
      left ∙ ap (λ o. kept_or o (without_program m p.name) m) passed ∙ ap (λ (x : Library). without_program x p.name) is ∙ back.1,
    )
