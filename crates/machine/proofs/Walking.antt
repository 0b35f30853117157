-- What holds of a walk along any chain. Assumes nothing.
use Rattle.std.proofs.Common.{◌≡◌, ℕ, suc, ◌<◌, ◌≤◌, Bool, true, false, cond, ltb, leb, ◌⊎◌, refl, inl, inr, le_trans, le_refl, arith}
use Rattle.std.proofs.lemmas.Bool.{both_ways, cond_both, leb-true, leb-false}
use Rattle.machine.specs.declared.amounts.Amounts.{Amounts}
use Rattle.machine.specs.Faults.{Question, shortage}
use Rattle.machine.specs.Chain.{Kind, kind, amount, Run, give, fault, ask, number, take_number, ◌>>=◌, Tally, passed, wanting, taken, Came, gave, stopped, walk}
use Rattle.machine.specs.ChainLaws.{tally_of, and_then}
use Rattle.machine.proofs.Counted.{raised_no_less, raised_within, reached}

module _ {W A : Type 0} (b : Amounts) where
  pub needs_never_fall : (t : Tally) (r : Run W A) (k : Kind) → amount k t.needs ≤ amount k (tally_of (walk b t r)).needs
  needs_never_fall t (give a) k = le_refl _
  needs_never_fall t (fault f w) k = le_refl _
  needs_never_fall t (ask q n w r) k =
      cond_both (leb n (amount (kind q) b)) _ _ (λ x. amount k t.needs ≤ amount k (tally_of x).needs)
      (λ e. le_trans (raised_no_less (kind q) k n t.needs) (needs_never_fall (passed (kind q) n t) r k)) (λ e. le_refl _)
  needs_never_fall t (number w g) k =
      cond_both (ltb t.created 9999) _ _ (λ x. amount k t.needs ≤ amount k (tally_of x).needs)
      (λ e. needs_never_fall (wanting t) (g (suc t.created)) k) (λ e. le_refl _)
  needs_never_fall t (take_number r) k = needs_never_fall (taken t) r k

  pub needs_stay_within : (t : Tally) (r : Run W A) (k : Kind) → amount k t.needs ≤ amount k b → amount k (tally_of (walk b t r)).needs ≤ amount k b
  needs_stay_within t (give a) k h = h
  needs_stay_within t (fault f w) k h = h
  needs_stay_within t (ask q n w r) k h =
      cond_both (leb n (amount (kind q) b)) _ _ (λ x. amount k (tally_of x).needs ≤ amount k b)
      (λ e. needs_stay_within (passed (kind q) n t) r k (raised_within (kind q) k n t.needs b (leb-true _ _ e) h)) (λ e. h)
  needs_stay_within t (number w g) k h =
      cond_both (ltb t.created 9999) _ _ (λ x. amount k (tally_of x).needs ≤ amount k b)
      (λ e. needs_stay_within (wanting t) (g (suc t.created)) k h) (λ e. h)
  needs_stay_within t (take_number r) k h = needs_stay_within (taken t) r k h

-- two that stand behind the same test
both_by : {A B : Type 0} (s : Bool) (x y : A) (u v : B) (P : A → B → Type 0) → P x u → P y v → P (cond s x y) (cond s u v)
both_by true x y u v P h i = h
both_by false x y u v P h i = i

module _ {W A B : Type 0} (b : Amounts) (f : A → Run W B) where
  abbrev on : A → Tally → Came W B
  on a u = walk b u (f a)

  pub walk_of_bind : (t : Tally) (r : Run W A) → walk b t (r >>= f) ≡ and_then (walk b t r) on
  walk_of_bind t (give a) = refl
  walk_of_bind t (fault x w) = refl
  walk_of_bind t (ask q n w r) =
      both_by (leb n (amount (kind q) b)) _ _ _ _ (λ x y. x ≡ and_then y on) (walk_of_bind (passed (kind q) n t) r) refl
  walk_of_bind t (number w g) =
      both_by (ltb t.created 9999) _ _ _ _ (λ x y. x ≡ and_then y on) (walk_of_bind (wanting t) (g (suc t.created))) refl
  walk_of_bind t (take_number r) = walk_of_bind (taken t) r

-- OTHER BOUNDS

module _ {W A : Type 0} where
  -- it stopped at that question
  abbrev pub Short : Question → Came W A → Type 0
  Short q (gave a t) = ⊥
  Short q (stopped r w t) = r ≡ shortage q

  -- x is the same as y, or it stopped at a need past its bound in b that y let pass
  abbrev pub SameOrShort : Amounts → Came W A → Came W A → Type 0
  SameOrShort b x y = (x ≡ y) ⊎ ((q : Question) × Short q x × (amount (kind q) b < amount (kind q) (tally_of y).needs))

module _ {W A : Type 0} (b b' : Amounts) where
  -- if it stopped at a question, the two bounds there are the same
  abbrev SameWhereShort : Came W A → Type 0
  SameWhereShort x = (q : Question) → Short q x → amount (kind q) b ≡ amount (kind q) b'

  -- with other bounds
  pub other_bounds : (t : Tally) (r : Run W A) → SameWhereShort (walk b t r) → SameOrShort b' (walk b' t r) (walk b t r)
  other_bounds t (give a) h = inl refl
  other_bounds t (fault f w) h = inl refl
  other_bounds t (ask q n w r) h =
      go (leb n (amount (kind q) b)) (leb n (amount (kind q) b')) (leb-false n _) (leb-true n _) (leb-false n _) h
      (other_bounds (passed (kind q) n t) r)
    where
      x : Came W A
      x = walk b (passed (kind q) n t) r

      x' : Came W A
      x' = walk b' (passed (kind q) n t) r

      short : Came W A
      short = stopped (shortage q) w t

      go : (s s' : Bool) → (s ≡ false → amount (kind q) b < n) → (s' ≡ true → n ≤ amount (kind q) b') → (s' ≡ false → amount (kind q) b' < n) →
          SameWhereShort (cond s x short) → (SameWhereShort x → SameOrShort b' x' x) →
          SameOrShort b' (cond s' x' short) (cond s x short)
      go true true e f g h ih = ih h
      go true false e f g h ih =
          inr (q, refl, omega (arith, g refl, reached (kind q) n t.needs, needs_never_fall b (passed (kind q) n t) r (kind q)))
      go false true e f g h ih = absurd (omega (arith, e refl, f refl, h q refl))
      go false false e f g h ih = inl refl
  other_bounds t (number w g) h =
      both_by (ltb t.created 9999) _ _ _ _ (λ x y. SameWhereShort y → SameOrShort b' x y)
      (other_bounds (wanting t) (g (suc t.created))) (λ h. inl refl) h
  other_bounds t (take_number r) h = other_bounds (taken t) r h

-- CREATED NUMBERS

module _ {W A : Type 0} (b : Amounts) where
  -- once a value wanted a created number, that is told
  wanted_stays : (t : Tally) (r : Run W A) → t.wanted ≡ true → (tally_of (walk b t r)).wanted ≡ true
  wanted_stays t (give a) h = h
  wanted_stays t (fault f w) h = h
  wanted_stays t (ask q n w r) h =
      cond_both (leb n (amount (kind q) b)) _ _ (λ x. (tally_of x).wanted ≡ true) (λ e. wanted_stays (passed (kind q) n t) r h) (λ e. h)
  wanted_stays t (number w g) h =
      cond_both (ltb t.created 9999) _ _ (λ x. (tally_of x).wanted ≡ true) (λ e. wanted_stays (wanting t) (g (suc t.created)) refl) (λ e. refl)
  wanted_stays t (take_number r) h = wanted_stays (taken t) r h

abbrev with_count : ℕ → Tally → Tally
with_count c t = record { needs = t.needs; created = c; wanted = t.wanted }

module _ {W A : Type 0} where
  -- without how many numbers were created
  abbrev pub uncounted : Came W A → Came W A
  uncounted (gave a t) = gave a (with_count 0 t)
  uncounted (stopped r w t) = stopped r w (with_count 0 t)

module _ {W A : Type 0} (b : Amounts) where
  -- as long as no value wants a created number, it is all one how many were created before
  pub other_count : (c c' : ℕ) (t : Tally) (r : Run W A) → (tally_of (walk b (with_count c' t) r)).wanted ≡ false →
      uncounted (walk b (with_count c t) r) ≡ uncounted (walk b (with_count c' t) r)
  other_count c c' t (give a) h = refl
  other_count c c' t (fault f w) h = refl
  other_count c c' t (ask q n w r) h =
      both_by (leb n (amount (kind q) b)) _ _ _ _ (λ x y. (tally_of y).wanted ≡ false → uncounted x ≡ uncounted y)
      (other_count c c' (passed (kind q) n t) r) (λ h. refl) h
  other_count c c' t (number w g) h =
      absurd (both_ways _ h (cond_both (ltb c' 9999) _ _ (λ x. (tally_of x).wanted ≡ true)
      (λ e. wanted_stays b (wanting (with_count c' t)) (g (suc c')) refl) (λ e. refl)))
  other_count c c' t (take_number r) h = other_count (suc c) (suc c') t r h
