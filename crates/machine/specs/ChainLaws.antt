-- What holds of every chain of the machine, and of what every call reports. Assumes nothing.
use Rattle.std.specs.Prelude.{◌≡◌, ◌≤◌}
use Rattle.machine.specs.declared.amounts.Amounts.{Amounts}
use Rattle.machine.specs.declared.amounts.Limits.{Limits}
use Rattle.machine.specs.Texts.{Code}
use Rattle.machine.specs.Chain.{Kind, amount, bounds, Run, ◌>>=◌, Tally, Came, gave, stopped, walk}
use Rattle.machine.specs.World.{World, Ready}
use Rattle.machine.specs.Scan.{State}
use Rattle.machine.specs.Calls.{Call, Memory, allowance_of, done}

-- what a chain of the machine gives
pub data Given : Type 0 where
  a_world a_call a_state : Given

abbrev pub type_of : Given → Type 0
type_of a_world = World
type_of a_call = Ready
type_of a_state = State

module _ {W A : Type 0} where
  -- the tally where a chain ended
  abbrev pub tally_of : Came W A → Tally
  tally_of (gave a t) = t
  tally_of (stopped r w t) = t

  -- what was given goes on, and what stopped stays
  abbrev pub and_then : {B : Type 0} → Came W A → (A → Tally → Came W B) → Came W B
  and_then (gave a t) f = f a t
  and_then (stopped r w t) f = stopped r w t

-- Along one chain and then another is along the first and, from where it ended, along the second.
abbrev pub WalkOfBind : Type 0
WalkOfBind =
    (x y : Given) (b : Amounts) (t : Tally) (r : Run World (type_of x)) (f : type_of x → Run World (type_of y)) →
    walk b t (r >>= f) ≡ and_then (walk b t r) (λ a u. walk b u (f a))

-- No need falls along a chain.
abbrev pub NeedsNeverFall : Type 0
NeedsNeverFall =
    (x : Given) (b : Amounts) (t : Tally) (r : Run World (type_of x)) (k : Kind) →
    amount k t.needs ≤ amount k (tally_of (walk b t r)).needs

-- Along a chain, a need that is within its bound stays within it.
abbrev pub NeedsStayWithinBounds : Type 0
NeedsStayWithinBounds =
    (x : Given) (b : Amounts) (t : Tally) (r : Run World (type_of x)) (k : Kind) →
    amount k t.needs ≤ amount k b → amount k (tally_of (walk b t r)).needs ≤ amount k b

-- No call reports a need past its bound.
abbrev pub ReportedNeedsAreWithinBounds : Type 0
ReportedNeedsAreWithinBounds =
    (code : Code) (p : Limits) (m : Memory) (c : Call) (k : Kind) →
    amount k (done code p m c).after.replied.needs ≤ amount k (bounds p (allowance_of c))
