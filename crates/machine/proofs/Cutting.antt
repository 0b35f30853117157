-- Limits and allowances, cut to what was reported and lowered. Assumes nothing.
use Rattle.std.proofs.Common.{◌≡◌, ℕ, zero, suc, ◌-◌, ◌≤◌, ◌⊎◌, List, [], ◌∷◌, map, None, sym, refl, ap, ap₂, inl, inr, le_refl, arith}
use Rattle.std.proofs.lemmas.Bool.Decides.{nat_tests}
use Rattle.machine.specs.declared.amounts.Limits.{Limits}
use Rattle.machine.specs.Texts.{Code}
use Rattle.machine.specs.Chain.{Kind, names, roll, store, scan, print, steps, amount, bounds}
use Rattle.machine.specs.Calls.{Call, expand, look, After, Memory, allowance_of, turned_away, done, history}
use Rattle.machine.specs.Promises.{Granted, NoLimitSmaller, largest, cut_limits, with_allowance, allowance_at, lower_allowance, SameButAreas, Lent}
use Rattle.machine.proofs.OneCall.{Asked, asked, reported_within}
use Rattle.machine.proofs.Admitted.{Passes, cut}
use Rattle.machine.proofs.Again.{need_at, within_at}

pub need_below : (i : ℕ) (k : Kind) (h : List After) → need_at i k h ≤ largest k h
need_below i k [] = le_refl 0
need_below zero k (a ∷ h) = omega arith
need_below (suc i) k (a ∷ h) = omega (arith, need_below i k h)

-- what no need exceeds, the largest does not
largest_below : (k : Kind) (h : List After) (n : ℕ) → ((i : ℕ) → need_at i k h ≤ n) → largest k h ≤ n
largest_below k [] n f = omega arith
largest_below k (a ∷ h) n f = omega (arith, f zero, largest_below k h n (λ i. f (suc i)))

-- a call with another allowance
module _ (n : ℕ) where
  asked_still : (c : Call) → asked (with_allowance n c) ≡ asked c
  asked_still (expand a s areas) = refl
  asked_still (look name area) = refl

  -- a look has no allowance
  allowance_now : (c : Call) → n ≤ allowance_of c → allowance_of (with_allowance n c) ≡ n
  allowance_now (expand a s areas) h = refl
  allowance_now (look name area) h = omega arith

-- the allowance of call i lowered: there, elsewhere, and what is asked for
pub lowered_at : (i : ℕ) (cs : List Call) → allowance_at i (lower_allowance i cs) ≡ allowance_at i cs - 1
lowered_at i [] = refl
lowered_at zero (c ∷ cs) = allowance_now _ c (omega arith)
lowered_at (suc i) (c ∷ cs) = lowered_at i cs

pub lowered_elsewhere : (i j : ℕ) (cs : List Call) → (j ≡ i) ⊎ (allowance_at j (lower_allowance i cs) ≡ allowance_at j cs)
lowered_elsewhere i j [] = inr refl
lowered_elsewhere zero zero (c ∷ cs) = inl refl
lowered_elsewhere zero (suc j) (c ∷ cs) = inr refl
lowered_elsewhere (suc i) zero (c ∷ cs) = inr refl
lowered_elsewhere (suc i) (suc j) (c ∷ cs) = elim (lowered_elsewhere i j cs) [ inl e ↦ inl (ap suc e) | inr e ↦ inr e ]

pub lowered_asked : (i : ℕ) (cs : List Call) → map asked (lower_allowance i cs) ≡ map asked cs
lowered_asked i [] = refl
lowered_asked zero (c ∷ cs) = ap (λ (x : Asked). x ∷ map asked cs) (asked_still _ c)
lowered_asked (suc i) (c ∷ cs) = ap (λ (xs : List Asked). asked c ∷ xs) (lowered_asked i cs)

same_self : (c : Call) → SameButAreas c c
same_self (expand a s areas) = (refl, refl)
same_self (look n area) = refl

-- what 10 and 11, or make, do not refuse they do not refuse with smaller numbers
module _ (p q : Limits) (less : NoLimitSmaller q p) where
  passes_less : (c : Call) (n : ℕ) → n ≤ allowance_of c → turned_away p c ≡ None → turned_away q (with_allowance n c) ≡ None
  passes_less (expand a s areas) n b h =
      let l₁ : q.store ≤ p.store = less store in
      let l₂ : q.scan ≤ p.scan = less scan in
      let l₃ : q.print ≤ p.print = less print in
      grind (arith, nat_tests)
  passes_less (look name area) n b h = let l₁ : q.store ≤ p.store = less store in grind (arith, nat_tests)

  pub granted_less : Granted p → Granted q
  granted_less g =
      let l₁ : q.names ≤ p.names = less names in
      let l₂ : q.roll ≤ p.roll = less roll in
      let l₃ : q.store ≤ p.store = less store in
      let l₄ : q.scan ≤ p.scan = less scan in
      let l₅ : q.print ≤ p.print = less print in
      grind (arith, nat_tests)

-- a list's limits and allowances, cut to what it reported
module _ (code : Code) (p : Limits) where
  pub cut_at : (m : Memory) (cs : List Call) (i : ℕ) → allowance_at i (cut cs (history code p m cs)) ≡ need_at i steps (history code p m cs)
  cut_at m [] i = refl
  cut_at m (c ∷ cs) zero = allowance_now _ c (reported_within code p m c steps)
  cut_at m (c ∷ cs) (suc i) = cut_at (done code p m c).memory cs i

  pub cut_asked : (m : Memory) (cs : List Call) → map asked cs ≡ map asked (cut cs (history code p m cs))
  cut_asked m [] = refl
  cut_asked m (c ∷ cs) = ap₂ (λ (x : Asked) (xs : List Asked). x ∷ xs) (sym (asked_still _ c)) (cut_asked (done code p m c).memory cs)

  pub cut_smaller : (m : Memory) (cs : List Call) → NoLimitSmaller (cut_limits (history code p m cs)) p
  cut_smaller m cs = go (history code p m cs) (within_at code p m cs)
    where
      go : (h : List After) → ((i : ℕ) (k : Kind) → need_at i k h ≤ amount k (bounds p (allowance_at i cs))) → NoLimitSmaller (cut_limits h) p
      go h f names = largest_below names h p.names (λ i. f i names)
      go h f roll = largest_below roll h p.roll (λ i. f i roll)
      go h f store = largest_below store h p.store (λ i. f i store)
      go h f scan = largest_below scan h p.scan (λ i. f i scan)
      go h f print = largest_below print h p.print (λ i. f i print)
      go h f steps = le_refl 0

  pub old_areas : (q : Limits) → NoLimitSmaller q p → (m : Memory) (cs : List Call) → Passes p cs →
      Lent q (cut cs (history code p m cs)) (cut cs (history code p m cs))
  old_areas q less m [] h = tt
  old_areas q less m (c ∷ cs) h =
      ((same_self _, passes_less p q less c _ (reported_within code p m c steps) h.0), old_areas q less (done code p m c).memory cs h.1)
