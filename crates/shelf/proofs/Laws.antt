-- The laws of a library go on to hold where a program is added or removed.
use Rattle.std.proofs.Common.{◌≡◌, ℕ, zero, suc, ◌+◌, ◌<◌, ◌≤◌, false, ◌⊎◌, List, [], ◌∷◌, ◌++◌, length, take, drop, is_some, Some, None, sym, refl, ap, ◌∙◌, subst, inl, inr, ⊎_elim, add-one, arith}
use Rattle.library.specs.Meaning.{Program, Lawful, NameLength, name_at, place}
use Rattle.library.proofs.Places.{place_only}

-- a name past the end
unnamed : {X : Type 0} (n : List ℕ) → None ≡ Some n → X
unnamed n e = let z : ◌≡◌ {A = ℕ} 0 1 = cc in absurd (omega arith)

-- a name stands before the end
pub named_within : (ps : List Program) (k : ℕ) (n : List ℕ) → name_at ps k ≡ Some n → k < length ps
named_within [] k n e = unnamed n e
named_within (p ∷ ps) zero n e = omega arith
named_within (p ∷ ps) (suc k) n e = omega (arith, named_within ps k n e)

-- a name that stands in the list with p at its end
added_at : (ps : List Program) (p : Program) (k : ℕ) (n : List ℕ) → name_at (ps ++ p ∷ []) k ≡ Some n → (name_at ps k ≡ Some n) ⊎ ((k ≡ length ps) × (p.name ≡ n))
added_at [] p zero n e = inr (refl, (cc))
added_at [] p (suc k) n e = unnamed n e
added_at (q ∷ ps) p zero n e = inl e
added_at (q ∷ ps) p (suc k) n e = ⊎_elim inl (λ w. inr (ap suc w.0, w.1)) (added_at ps p k n e)

-- a name that is absent stands nowhere
absent_at : (ps : List Program) (n : List ℕ) (k : ℕ) → Lawful ps → is_some (place n ps) ≡ false → name_at ps k ≡ Some n → ⊥
absent_at ps n k lawful absent named =
    let there = place_only n ps (place n ps) refl lawful k named in
    let z : ◌≡◌ {A = ℕ} 0 1 = cc (ap is_some there) in
    omega arith

pub lawful_added : (ps : List Program) (p : Program) → Lawful ps → NameLength p.name → is_some (place p.name ps) ≡ false → Lawful (ps ++ p ∷ [])
lawful_added ps p lawful named absent =
    record {
      fit = λ k n e. ⊎_elim (lawful.fit k n) (λ w. subst NameLength w.1 named) (added_at ps p k n e);
      distinct = λ j k same. go j k same.name (added_at ps p j same.name same.at_j) (added_at ps p k same.name same.at_k);
    }
  where
    apart : (i : ℕ) (n : List ℕ) → name_at ps i ≡ Some n → p.name ≡ n → ⊥
    apart i n e w = absent_at ps p.name i lawful absent (e ∙ ap (λ m. Some m) (sym w))

    go : (j k : ℕ) (n : List ℕ) → (name_at ps j ≡ Some n) ⊎ ((j ≡ length ps) × (p.name ≡ n)) → (name_at ps k ≡ Some n) ⊎ ((k ≡ length ps) × (p.name ≡ n)) → j ≡ k
    go j k n (inl a) (inl b) = lawful.distinct j k (record { name = n; at_j = a; at_k = b })
    go j k n (inl a) (inr b) = absurd (apart j n a b.1)
    go j k n (inr a) (inl b) = absurd (apart k n b a.1)
    go j k n (inr a) (inr b) = a.0 ∙ sym b.0

-- a name that stands in the list without program i
removed_at : (i : ℕ) (ps : List Program) (k : ℕ) (n : List ℕ) → name_at (take i ps ++ drop (suc i) ps) k ≡ Some n → ((k < i) × (name_at ps k ≡ Some n)) ⊎ ((i ≤ k) × (name_at ps (suc k) ≡ Some n))
removed_at zero [] k n e = unnamed n e
removed_at zero (q ∷ ps) k n e = inr (omega arith, e)
removed_at (suc i) [] k n e = unnamed n e
removed_at (suc i) (q ∷ ps) zero n e = inl (omega arith, e)
removed_at (suc i) (q ∷ ps) (suc k) n e =
    ⊎_elim (λ w. inl (omega (arith, w.0), w.1)) (λ w. inr (omega (arith, w.0), w.1)) (removed_at i ps k n e)

pub lawful_removed : (ps : List Program) (i : ℕ) → Lawful ps → Lawful (take i ps ++ drop (i + 1) ps)
lawful_removed ps i lawful =
    subst (λ (m : ℕ). Lawful (take i ps ++ drop m ps)) (sym (add-one i))
    (record {
      fit = λ k n e. ⊎_elim (λ w. lawful.fit k n w.1) (λ w. lawful.fit (suc k) n w.1) (removed_at i ps k n e);
      distinct = λ j k same. go j k same.name (removed_at i ps j same.name same.at_j) (removed_at i ps k same.name same.at_k);
    })
  where
    one : (j k : ℕ) (n : List ℕ) → name_at ps j ≡ Some n → name_at ps k ≡ Some n → j ≡ k
    one j k n a b = lawful.distinct j k (record { name = n; at_j = a; at_k = b })

    go : (j k : ℕ) (n : List ℕ) → ((j < i) × (name_at ps j ≡ Some n)) ⊎ ((i ≤ j) × (name_at ps (suc j) ≡ Some n)) → ((k < i) × (name_at ps k ≡ Some n)) ⊎ ((i ≤ k) × (name_at ps (suc k) ≡ Some n)) → j ≡ k
    go j k n (inl a) (inl b) = one j k n a.1 b.1
    go j k n (inl a) (inr b) = omega (arith, one j (suc k) n a.1 b.1, a.0, b.0)
    go j k n (inr a) (inl b) = omega (arith, one (suc j) k n a.1 b.1, a.0, b.0)
    go j k n (inr a) (inr b) = omega (arith, one (suc j) (suc k) n a.1 b.1)
