-- What an expansion does, as a chain of the questions that it puts; and the one place where bounds are seen.
-- Assumes nothing.
use Rattle.std.specs.Prelude.{ℕ, suc, max, Bool, true, cond, nat_le, nat_lt}
use Rattle.refusal.specs.declared.Refusal.{Refusal}
use Rattle.machine.specs.declared.amounts.Amounts.{Amounts}
use Rattle.machine.specs.declared.amounts.Limits.{Limits}
use Rattle.machine.specs.Faults.{Question, source?, step?, roll?, names?, store?, print?, value?, shortage, Fault, no_created_number, refusal_of}

-- what is counted
pub data Kind : Type 0 where
  names roll store scan print steps : Kind

-- what a question is about
abbrev pub kind : Question → Kind
kind source? = scan
kind step? = steps
kind roll? = roll
kind names? = names
kind store? = store
kind print? = print
kind value? = scan

abbrev pub amount : Kind → Amounts → ℕ
amount names a = a.names
amount roll a = a.roll
amount store a = a.store
amount scan a = a.scan
amount print a = a.print
amount steps a = a.steps

abbrev pub nothing : Amounts
nothing = record { names = 0; roll = 0; store = 0; scan = 0; print = 0; steps = 0 }

-- an amount of a kind raised to n, if it was less
abbrev pub raised : Kind → ℕ → Amounts → Amounts
raised names n a = record { names = max a.names n; roll = a.roll; store = a.store; scan = a.scan; print = a.print; steps = a.steps }
raised roll n a = record { names = a.names; roll = max a.roll n; store = a.store; scan = a.scan; print = a.print; steps = a.steps }
raised store n a = record { names = a.names; roll = a.roll; store = max a.store n; scan = a.scan; print = a.print; steps = a.steps }
raised scan n a = record { names = a.names; roll = a.roll; store = a.store; scan = max a.scan n; print = a.print; steps = a.steps }
raised print n a = record { names = a.names; roll = a.roll; store = a.store; scan = a.scan; print = max a.print n; steps = a.steps }
raised steps n a = record { names = a.names; roll = a.roll; store = a.store; scan = a.scan; print = a.print; steps = max a.steps n }

-- what bounds an expansion: the limits, and the allowance of steps
abbrev pub bounds : Limits → ℕ → Amounts
bounds l allowance = record { names = l.names; roll = l.roll; store = l.store; scan = l.scan; print = l.print; steps = allowance }

-- A chain. W is what is left behind where it stops, A what it gives.
pub data Run (W A : Type 0) : Type 0 where
  give : A → Run W A
  fault : Fault → W → Run W A
  -- a question and its need; W is left behind if the answer is no
  ask : Question → ℕ → W → Run W A → Run W A
  -- a value wants a created number; W is left behind if none is left
  number : W → (ℕ → Run W A) → Run W A
  -- that number is now taken
  take_number : Run W A → Run W A

module _ {W A B : Type 0} where
  -- one chain, and then another from what it gave
  infixl 20 ◌>>=◌
  abbrev pub ◌>>=◌ : Run W A → (A → Run W B) → Run W B
  give a >>= f = f a
  fault x w >>= f = fault x w
  ask q n w r >>= f = ask q n w (r >>= f)
  number w g >>= f = number w (λ n. g n >>= f)
  take_number r >>= f = take_number (r >>= f)

-- what is counted along a chain
pub record Tally : Type 0 where
  -- of each kind, the largest need that a question let pass
  pub needs : Amounts
  -- how many numbers were created in the processor's life
  pub created : ℕ
  -- did a value of this expansion want a created number?
  pub wanted : Bool

abbrev pub passed : Kind → ℕ → Tally → Tally
passed k n t = record { needs = raised k n t.needs; created = t.created; wanted = t.wanted }

abbrev pub wanting : Tally → Tally
wanting t = record { needs = t.needs; created = t.created; wanted = true }

abbrev pub taken : Tally → Tally
taken t = record { needs = t.needs; created = suc t.created; wanted = t.wanted }

-- what a chain comes to
pub data Came (W A : Type 0) : Type 0 where
  gave : A → Tally → Came W A
  stopped : Refusal → W → Tally → Came W A

-- Along the chain. Nothing else sees the bounds, or how many numbers were created.
abbrev pub walk : {W A : Type 0} → Amounts → Tally → Run W A → Came W A
walk b t (give a) = gave a t
walk b t (fault f w) = stopped (refusal_of f) w t
walk b t (ask q n w r) = cond (nat_le n (amount (kind q) b)) (walk b (passed (kind q) n t) r) (stopped (shortage q) w t)
walk b t (number w g) = cond (nat_lt t.created 9999) (walk b (wanting t) (g (suc t.created))) (stopped (refusal_of no_created_number) w (wanting t))
walk b t (take_number r) = walk b (taken t) r
