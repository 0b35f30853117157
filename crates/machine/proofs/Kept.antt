-- What a chain keeps, whatever the bounds. Assumes nothing.
use Rattle.std.proofs.Common.{ℕ, suc, ltb, leb}
use Rattle.std.proofs.lemmas.Bool.{cond_both}
use Rattle.machine.specs.declared.amounts.Amounts.{Amounts}
use Rattle.machine.specs.Chain.{kind, amount, Run, give, fault, ask, number, take_number, ◌>>=◌, Tally, passed, wanting, taken, Came, gave, stopped, walk}

module _ {W A : Type 0} (P : W → Type 0) (Q : A → Type 0) where
  -- P holds of all that the chain can leave behind, and Q of what it gives
  abbrev pub Keeps : Run W A → Type 0
  Keeps (give a) = Q a
  Keeps (fault f w) = P w
  Keeps (ask q n w r) = P w × Keeps r
  Keeps (number w g) = P w × ((n : ℕ) → Keeps (g n))
  Keeps (take_number r) = Keeps r

  -- so it is with what it came to
  abbrev pub Kept : Came W A → Type 0
  Kept (gave a t) = Q a
  Kept (stopped r w t) = P w

  pub kept_by_walk : (b : Amounts) (t : Tally) (r : Run W A) → Keeps r → Kept (walk b t r)
  kept_by_walk b t (give a) h = h
  kept_by_walk b t (fault f w) h = h
  kept_by_walk b t (ask q n w r) h =
      cond_both (leb n (amount (kind q) b)) _ _ Kept (λ e. kept_by_walk b (passed (kind q) n t) r h.1) (λ e. h.0)
  kept_by_walk b t (number w g) h =
      cond_both (ltb t.created 9999) _ _ Kept (λ e. kept_by_walk b (wanting t) (g (suc t.created)) (h.1 (suc t.created))) (λ e. h.0)
  kept_by_walk b t (take_number r) h = kept_by_walk b (taken t) r h

module _ {W A B : Type 0} (P : W → Type 0) (Q : A → Type 0) (R : B → Type 0) (f : A → Run W B) (then : (a : A) → Q a → Keeps P R (f a)) where
  pub kept_by_bind : (r : Run W A) → Keeps P Q r → Keeps P R (r >>= f)
  kept_by_bind (give a) h = then a h
  kept_by_bind (fault x w) h = h
  kept_by_bind (ask q n w r) h = (h.0, kept_by_bind r h.1)
  kept_by_bind (number w g) h = (h.0, λ n. kept_by_bind (g n) (h.1 n))
  kept_by_bind (take_number r) h = kept_by_bind r h
