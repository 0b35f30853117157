-- Amounts raised and limits lowered, kind by kind. Assumes nothing.
use Rattle.std.proofs.Common.{◌≡◌, ℕ, ◌-◌, ◌≤◌, max, ◌⊎◌, refl, inl, inr, arith}
use Rattle.machine.specs.declared.amounts.Amounts.{Amounts}
use Rattle.machine.specs.declared.amounts.Limits.{Limits}
use Rattle.machine.specs.Chain.{Kind, names, roll, store, scan, print, steps, amount, nothing, raised, bounds}
use Rattle.machine.specs.Promises.{limit, NoLimitSmaller, lower_limit}

abbrev OfEach : (Kind → Type 0) → Type 0
OfEach P = P names × P roll × P store × P scan × P print × P steps

of_each : (P : Kind → Type 0) → OfEach P → (k : Kind) → P k
of_each P h names = h.0
of_each P h roll = h.1
of_each P h store = h.2
of_each P h scan = h.3
of_each P h print = h.4
of_each P h steps = h.5

pub nothing_is_least : (k : Kind) (a : Amounts) → amount k nothing ≤ amount k a
nothing_is_least k a = of_each (λ k. amount k nothing ≤ amount k a) (omega arith) k

-- the kind that is raised, or lowered
raised_here : (k : Kind) (n : ℕ) (a : Amounts) → amount k (raised k n a) ≡ max (amount k a) n
raised_here k n a = of_each (λ k. amount k (raised k n a) ≡ max (amount k a) n) (refl, refl, refl, refl, refl, refl) k

pub lowered_here : (k : Kind) (l : Limits) → limit k (lower_limit k l) ≡ limit k l - 1
lowered_here k l = of_each (λ k. limit k (lower_limit k l) ≡ limit k l - 1) (refl, refl, refl, refl, refl, refl) k

-- kind j keeps its amount when kind k is raised, and its bound when k's limit is lowered
pub record Apart (j k : Kind) : Type 0 where
  pub raising : (n : ℕ) (a : Amounts) → amount j (raised k n a) ≡ amount j a
  pub lowering : (l : Limits) (n : ℕ) → amount j (bounds (lower_limit k l) n) ≡ amount j (bounds l n)

pub same_or_apart : (j k : Kind) → (j ≡ k) ⊎ Apart j k
same_or_apart names = of_each (λ k. (names ≡ k) ⊎ Apart names k) (search (inl, inr))
same_or_apart roll = of_each (λ k. (roll ≡ k) ⊎ Apart roll k) (search (inl, inr))
same_or_apart store = of_each (λ k. (store ≡ k) ⊎ Apart store k) (search (inl, inr))
same_or_apart scan = of_each (λ k. (scan ≡ k) ⊎ Apart scan k) (search (inl, inr))
same_or_apart print = of_each (λ k. (print ≡ k) ⊎ Apart print k) (search (inl, inr))
same_or_apart steps = of_each (λ k. (steps ≡ k) ⊎ Apart steps k) (search (inl, inr))

module _ (k j : Kind) (n : ℕ) (a : Amounts) where
  pub raised_no_less : amount j a ≤ amount j (raised k n a)
  raised_no_less =
      elim (same_or_apart j k) [
        | inl e ↦ rw e (omega (arith, raised_here k n a))
        | inr d ↦ omega (arith, d.raising n a)
      ]

  -- what was raised to no more than its bound
  pub raised_within : (b : Amounts) → n ≤ amount k b → amount j a ≤ amount j b → amount j (raised k n a) ≤ amount j b
  raised_within b =
      elim (same_or_apart j k) [
        | inl e ↦ rw e (λ h i. omega (arith, raised_here k n a))
        | inr d ↦ λ h i. omega (arith, d.raising n a)
      ]

pub reached : (k : Kind) (n : ℕ) (a : Amounts) → n ≤ amount k (raised k n a)
reached k n a = omega (arith, raised_here k n a)

-- only the bound of steps goes by the allowance
pub steps_or_limit : (k : Kind) → (k ≡ steps) ⊎ ((l : Limits) (m n : ℕ) → amount k (bounds l m) ≡ amount k (bounds l n))
steps_or_limit = of_each (λ k. (k ≡ steps) ⊎ ((l : Limits) (m n : ℕ) → amount k (bounds l m) ≡ amount k (bounds l n))) (search (inl, inr))

pub bounds_no_less : (p q : Limits) → NoLimitSmaller p q → (a b : ℕ) → a ≤ b → (k : Kind) → amount k (bounds p a) ≤ amount k (bounds q b)
bounds_no_less p q more a b l k =
    elim (steps_or_limit k) [ inl e ↦ rw e l | inr f ↦ omega (arith, f p a 0, f q b 0, more k) ]
