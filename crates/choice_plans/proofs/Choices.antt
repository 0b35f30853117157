-- What a choice comes to, by texts or by two numbers.
use Rattle.std.proofs.Common.{◌≡◌, Bool, true, false, ℤ, refl, arith, Ok, of_z, w64, FitsSigned}
use Rattle.std.proofs.lemmas.Int.{ints}
use Rattle.std.specs.Prelude.{if◌then◌else◌, nat_eq}
use Rattle.code.specs.declared.Code.{Ghosts as OfCode}
use Rattle.library.specs.declared.reader.Reader.{Ghosts as OfReader}
use Rattle.refusal.specs.declared.Refusal.{Refusal}
use Rattle.machine.specs.Arithmetic.{of_two}
use Rattle.machine.specs.Comparisons.{chosen, equal, compare_numbers}
use Rattle.number.specs.Results.{Attempt, paired}
use Rattle.value.specs.declared.sources.Sources.{Sources}
use Rattle.value.specs.declared.value.Value.TheVariants as value
use Rattle.plan.specs.declared.plan.Plan.{Plan}
use Rattle.plan.specs.declared.effect.Effect.TheVariants as effect
use Rattle.plan.specs.Plans.{Planned, Refused, GoesOn, Stops}
use Rattle.plan.proofs.Planning.{stopped_at, then_plans}

-- integers are equal where their bits are
pub equal_bits : (x y : ℤ) → FitsSigned w64 x → FitsSigned w64 y → nat_eq (of_z w64 x) (of_z w64 y) ≡ equal x y
equal_bits x y fits_x fits_y = grind (arith, ints)

-- the plan of a choice
abbrev pub choice : Bool → Plan
choice so = record { value = value.Parameter (if so then 2 else 3); effect = effect.Nothing }

module _ {C R : Type 0} {code : OfCode C} {reader : OfReader R} (s : Sources C R code reader) where
  pub chosen_is_planned : (so : Bool) → Planned s (chosen so s.parameters.now) (choice so)
  chosen_is_planned true = record { stands = tt; may = tt; comes = λ w sees. refl }
  chosen_is_planned false = record { stands = tt; may = tt; comes = λ w sees. refl }

  pub compared : (so test : Bool) → so ≡ test → Planned s (chosen test s.parameters.now) (choice so)
  compared so test is = rw is (chosen_is_planned test)

  -- the two numbers
  abbrev pub numbers : Attempt (ℤ × ℤ)
  numbers = paired (λ w go. of_two code.meaning s.parameters.now 15 15 w go)

  pub no_numbers : (test : ℤ → ℤ → Bool) (e : Refusal) → Stops s numbers e → Refused s (λ w. compare_numbers code.meaning s.parameters.now w test) e
  no_numbers test e h = stopped_at s numbers (λ w v. chosen (test v.0 v.1) s.parameters.now w) e h

  pub numbers_compared : (test : ℤ → ℤ → Bool) (x y : ℤ) (so : Bool) → GoesOn s numbers (x, y) → so ≡ test x y → Planned s (λ w. compare_numbers code.meaning s.parameters.now w test) (choice so)
  numbers_compared test x y so h is = then_plans s numbers (λ w v. chosen (test v.0 v.1) s.parameters.now w) (x, y) (Ok (choice so)) h (compared so (test x y) is)
