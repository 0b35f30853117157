-- What attempts come to: from what the result is, and one after the other.
use Rattle.std.proofs.Common.{◌≡◌, Bool, true, false, cond, Ok, Err, refl, sym, subst, ◌∙◌}
use Rattle.std.specs.Prelude.{Result}
use Rattle.refusal.specs.declared.Refusal.{Refusal}
use Rattle.machine.specs.Faults.{Fault, refusal_of}
use Rattle.machine.specs.World.{World, Outcome, faults, provided}
use Rattle.number.specs.Results.{Attempt, GoesOn, Stops, ComesTo}

pub refused : {V : Type 0} (q : Attempt V) (r : Result V Refusal) (f : Fault) → r ≡ Err (refusal_of f) → ((w : World) (go : V → Outcome) → q w go ≡ faults f w) → ComesTo q r
refused q r f is same = subst (λ x. ComesTo q x) (sym is) (record { why = f; says = refl; stops = same })

pub granted : {V : Type 0} (q : Attempt V) (r : Result V Refusal) (v : V) → r ≡ Ok v → ((w : World) (go : V → Outcome) → q w go ≡ go v) → ComesTo q r
granted q r v is same = subst (λ x. ComesTo q x) (sym is) (record { on = same })

-- all depends on one test
pub tested : {V : Type 0} (q : Attempt V) (r : Result V Refusal) (t : Bool) (f : Fault) (v : V) → r ≡ cond t (Ok v) (Err (refusal_of f))
    → ((w : World) (go : V → Outcome) → q w go ≡ provided t f w (go v)) → ComesTo q r
tested q r true f v is same = granted q r v is same
tested q r false f v is same = refused q r f is same

-- ONE AFTER THE OTHER

-- the first stops
pub then_stops : {V U : Type 0} (q : Attempt V) (f : V → Attempt U) (e : Refusal) → Stops q e → Stops (λ w go. q w (λ v. f v w go)) e
then_stops q f e s = record { why = s.why; says = s.says; stops = λ w go. s.stops w (λ v. f v w go) }

-- the first goes on
pub then_comes : {V U : Type 0} (q : Attempt V) (f : V → Attempt U) (v : V) (r : Result U Refusal) → GoesOn q v → ComesTo (f v) r → ComesTo (λ w go. q w (λ v. f v w go)) r
then_comes q f v (Ok u) g c = record { on = λ w go. g.on w (λ v. f v w go) ∙ c.on w go }
then_comes q f v (Err e) g c = record { why = c.why; says = c.says; stops = λ w go. g.on w (λ v. f v w go) ∙ c.stops w go }
