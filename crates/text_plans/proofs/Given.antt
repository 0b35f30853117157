-- GN, from the integer that it reads.
use Rattle.std.proofs.Common.{◌≡◌, ℤ, List, pos, negsuc, Some, None, Ok, Err, refl, sym, ◌∙◌}
use Rattle.std.specs.Prelude.{Option, Result}
use Rattle.std.specs.Result.{IsErrAnd}
use Rattle.code.specs.declared.Code.{Ghosts as OfCode}
use Rattle.library.specs.declared.reader.Reader.{Ghosts as OfReader}
use Rattle.refusal.specs.declared.Refusal.{Refusal}
use Rattle.machine.specs.Texts.{Text, Code}
use Rattle.machine.specs.Numbers.{Numeral, read_integer}
use Rattle.machine.specs.World.{World, valued, p1, p2}
use Rattle.machine.specs.Arithmetic.{if_one}
use Rattle.machine.specs.TextFunctions.{given, give_by, give_characters}
use Rattle.number.specs.Results.{Attempt, GoesOn, Stops}
use Rattle.value.specs.declared.sources.Sources.{Sources}
use Rattle.plan.specs.declared.plan.Plan.{Plan}
use Rattle.plan.specs.declared.effect.Effect.TheVariants.{Nothing}
use Rattle.plan.specs.Plans.{Plans, Planned}
use Rattle.text_plans.specs.Giving.{given_bytes}

give_by_one : (o : Option Numeral) (t : Text) (w : World) → give_by o t w ≡ if_one o 9 w (λ n. valued (given n t) w)
give_by_one None t w = refl
give_by_one (Some n) t w = refl

-- in a code, the number of bytes that is asked for
abbrev count : Code → List Text → Attempt ℤ
count code ps = if_one (read_integer code (p1 ps)) 9

by_count : (code : Code) (ps : List Text) (w : World) → give_characters code ps w ≡ count code ps w (λ n. valued (given n (p2 ps)) w)
by_count code ps w = give_by_one (read_integer code (p1 ps)) (p2 ps) w

counted : (code : Code) (ps : List Text) (n : ℤ) → GoesOn (count code ps) n → (w : World) → give_characters code ps w ≡ valued (given n (p2 ps)) w
counted code ps n h w = by_count code ps w ∙ h.on w (λ n. valued (given n (p2 ps)) w)

module _ {C R : Type 0} {code : OfCode C} {reader : OfReader R} (s : Sources C R code reader) where
  pub gives_none : (r : Result Plan Refusal) (e : Refusal) → IsErrAnd r (λ x. x ≡ e) → Stops (count code.meaning s.parameters.now) e → Plans s (give_characters code.meaning s.parameters.now) r
  gives_none (Ok p) e said h = absurd said
  gives_none (Err x) e said h = record {
    why = h.why;
    says = h.says ∙ sym said;
    comes = λ w sees. by_count code.meaning s.parameters.now w ∙ h.stops w (λ n. valued (given n (p2 s.parameters.now)) w);
  }

  pub gives : (n : ℤ) → GoesOn (count code.meaning s.parameters.now) n → Planned s (give_characters code.meaning s.parameters.now) (record { value = given_bytes n; effect = Nothing })
  gives (pos n) h = record { stands = tt; may = tt; comes = λ w sees. counted code.meaning s.parameters.now (pos n) h w }
  gives (negsuc n) h = record { stands = tt; may = tt; comes = λ w sees. counted code.meaning s.parameters.now (negsuc n) h w }
