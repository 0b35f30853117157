-- The arithmetic functions give what their results are written as.
use Rattle.std.proofs.Common.{◌≡◌, ℤ, List, Ok, Err, refl, sym, ◌∙◌}
use Rattle.std.specs.Prelude.{Result}
use Rattle.std.specs.Result.{IsErrAnd}
use Rattle.code.specs.declared.Code.{Ghosts as OfCode}
use Rattle.library.specs.declared.reader.Reader.{Ghosts as OfReader}
use Rattle.refusal.specs.declared.Refusal.{Refusal}
use Rattle.machine.specs.declared.built_in.ArithmeticFunction.{ArithmeticFunction}
use Rattle.machine.specs.declared.built_in.ArithmeticFunction.TheVariants.{Ad, Su, Mu, Dv, Dvr, Abs}
use Rattle.machine.specs.Texts.{Text, Code}
use Rattle.machine.specs.Numbers.{written}
use Rattle.machine.specs.World.{World, valued, p1, p2}
use Rattle.machine.specs.Arithmetic.{on_arithmetic}
use Rattle.number.specs.Results.{GoesOn, Stops}
use Rattle.value.specs.declared.sources.Sources.{Sources}
use Rattle.value.specs.declared.value.Value.TheVariants.{Number}
use Rattle.plan.specs.declared.plan.Plan.{Plan}
use Rattle.plan.specs.declared.effect.Effect.TheVariants.{Nothing}
use Rattle.plan.specs.Plans.{Plans, Planned}
use Rattle.number_plans.specs.Calculating.{result_of}

-- each function writes its result
by_result : (code : Code) (f : ArithmeticFunction) (ps : List Text) (w : World) → on_arithmetic code f ps w ≡ result_of code f (p1 ps) (p2 ps) w (λ z. valued (written code z) w)
by_result code Ad ps w = refl
by_result code Su ps w = refl
by_result code Mu ps w = refl
by_result code Dv ps w = refl
by_result code Dvr ps w = refl
by_result code Abs ps w = refl

module _ {C R : Type 0} {code : OfCode C} {reader : OfReader R} (s : Sources C R code reader) (f : ArithmeticFunction) where
  pub no_result : (r : Result Plan Refusal) (e : Refusal) → IsErrAnd r (λ x. x ≡ e) → Stops (result_of code.meaning f (p1 s.parameters.now) (p2 s.parameters.now)) e
      → Plans s (on_arithmetic code.meaning f s.parameters.now) r
  no_result (Ok p) e said h = absurd said
  no_result (Err x) e said h = record { why = h.why; says = h.says ∙ sym said; comes = λ w sees. by_result code.meaning f s.parameters.now w ∙ h.stops w (λ z. valued (written code.meaning z) w) }

  pub its_result : (z : ℤ) → GoesOn (result_of code.meaning f (p1 s.parameters.now) (p2 s.parameters.now)) z
      → Planned s (on_arithmetic code.meaning f s.parameters.now) (record { value = Number z; effect = Nothing })
  its_result z h = record { stands = tt; may = tt; comes = λ w sees. by_result code.meaning f s.parameters.now w ∙ h.on w (λ z. valued (written code.meaning z) w) }
