-- What the machine comes to where it goes on with a value or faults, as a result in code. Assumes nothing.
use Rattle.std.specs.Prelude.{◌≡◌, ℤ, Result, MatchResult}
use Rattle.refusal.specs.declared.Refusal.{Refusal}
use Rattle.machine.specs.Faults.{Fault, refusal_of, no_quotient}
use Rattle.machine.specs.World.{World, Outcome, faults, provided}
use Rattle.machine.specs.Arithmetic.{divides}

-- in a world, and with what is to be done with a value V: an attempt at such a value
abbrev pub Attempt : Type 0 → Type 0
Attempt V = World → (V → Outcome) → Outcome

-- in every world it goes on with this value
pub record GoesOn {V : Type 0} (attempt : Attempt V) (value : V) : Type 0 where
  pub on : (w : World) (go : V → Outcome) → attempt w go ≡ go value

-- in every world a fault of this refusal stops it
pub record Stops {V : Type 0} (attempt : Attempt V) (refusal : Refusal) : Type 0 where
  pub why : Fault
  pub says : refusal_of why ≡ refusal
  pub stops : (w : World) (go : V → Outcome) → attempt w go ≡ faults why w

abbrev pub ComesTo : {V : Type 0} → Attempt V → Result V Refusal → Type 0
ComesTo attempt r = MatchResult r (GoesOn attempt) (Stops attempt)

-- an attempt at two values, as one at the pair
abbrev pub paired : {V : Type 0} → (World → (V → V → Outcome) → Outcome) → Attempt (V × V)
paired attempt w go = attempt w (λ x y. go (x, y))

-- the quotient or the remainder, if there is a quotient
abbrev pub dividing : ℤ → ℤ → (ℤ → ℤ → ℤ) → Attempt ℤ
dividing x y part w go = provided (divides x y) no_quotient w (go (part x y))
