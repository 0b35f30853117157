-- What attempts and functions come to in the worlds that sources show: from one test, and one after the other.
use Rattle.std.proofs.Common.{◌≡◌, Bool, true, false, Ok, Err, refl, ap, ◌∙◌}
use Rattle.std.specs.Prelude.{Result}
use Rattle.code.specs.declared.Code.{Ghosts as OfCode}
use Rattle.library.specs.declared.reader.Reader.{Ghosts as OfReader}
use Rattle.refusal.specs.declared.Refusal.{Refusal}
use Rattle.machine.specs.Faults.{Fault, refusal_of}
use Rattle.machine.specs.World.{World, Outcome, faults, provided}
use Rattle.number.specs.Results as number
use Rattle.value.specs.declared.sources.Sources.{Sources}
use Rattle.plan.specs.declared.plan.Plan.{Plan}
use Rattle.plan.specs.Plans.{Sees, Plans, Refused, GoesOn, Stops, ComesTo}

module _ {C R : Type 0} {code : OfCode C} {reader : OfReader R} (s : Sources C R code reader) where
  -- FROM A FAULT

  pub stopping : {V : Type 0} (attempt : World → (V → Outcome) → Outcome) (f : Fault) → ((w : World) → Sees s w → (go : V → Outcome) → attempt w go ≡ faults f w) → Stops s attempt (refusal_of f)
  stopping attempt f h = record { why = f; says = refl; stops = h }

  pub refusing : (function : World → Outcome) (f : Fault) → ((w : World) → Sees s w → function w ≡ faults f w) → Refused s function (refusal_of f)
  refusing function f h = record { why = f; says = refl; comes = h }

  -- an attempt that comes to this in every world comes to it in those that the sources show
  pub as_seen : {V : Type 0} (attempt : World → (V → Outcome) → Outcome) (r : Result V Refusal) → number.ComesTo attempt r → ComesTo s attempt (λ v. v) r
  as_seen attempt (Ok v) h = record { on = λ w sees go. h.on w go }
  as_seen attempt (Err e) h = record { why = h.why; says = h.says; stops = λ w sees go. h.stops w go }

  -- ONE AFTER THE OTHER

  -- the attempt stops, and so does the function that begins with it
  pub stopped_at : {V : Type 0} (attempt : World → (V → Outcome) → Outcome) (rest : World → V → Outcome) (e : Refusal) → Stops s attempt e → Refused s (λ w. attempt w (rest w)) e
  stopped_at attempt rest e h = record { why = h.why; says = h.says; comes = λ w sees. h.stops w sees (rest w) }

  -- it goes on, and the function comes to what the rest of it comes to
  pub then_plans : {V : Type 0} (attempt : World → (V → Outcome) → Outcome) (rest : World → V → Outcome) (v : V) (r : Result Plan Refusal) → GoesOn s attempt v → Plans s (λ w. rest w v) r → Plans s (λ w. attempt w (rest w)) r
  then_plans attempt rest v (Ok p) h k = record { stands = k.stands; may = k.may; comes = λ w sees. h.on w sees (rest w) ∙ k.comes w sees }
  then_plans attempt rest v (Err e) h k = record { why = k.why; says = k.says; comes = λ w sees. h.on w sees (rest w) ∙ k.comes w sees }

  -- A function that is another one in the worlds that the sources show comes to what that one comes to.
  pub plans_alike : (f g : World → Outcome) (r : Result Plan Refusal) → ((w : World) → Sees s w → f w ≡ g w) → Plans s g r → Plans s f r
  plans_alike f g (Ok p) same h = record { stands = h.stands; may = h.may; comes = λ w sees. same w sees ∙ h.comes w sees }
  plans_alike f g (Err e) same h = record { why = h.why; says = h.says; comes = λ w sees. same w sees ∙ h.comes w sees }

  -- A question of a function: no.
  pub question_refuses : (test : Bool) (f : Fault) (rest : World → Outcome) → test ≡ false → Refused s (λ w. provided test f w (rest w)) (refusal_of f)
  question_refuses test f rest said = record { why = f; says = refl; comes = λ w sees. ap (λ t. provided t f w (rest w)) said }

  -- Yes: the rest decides.
  pub question_passes : (test : Bool) (f : Fault) (rest : World → Outcome) (r : Result Plan Refusal) → test ≡ true → Plans s rest r → Plans s (λ w. provided test f w (rest w)) r
  question_passes test f rest r said h = plans_alike (λ w. provided test f w (rest w)) rest r (λ w sees. ap (λ t. provided t f w (rest w)) said) h
