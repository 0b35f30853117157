-- What a function comes to that moves the pointer past a run.
use Rattle.std.proofs.Common.{◌≡◌, ℕ, ◌+◌, Ok, refl}
use Rattle.code.specs.declared.Code.{Ghosts as OfCode}
use Rattle.library.specs.declared.reader.Reader.{Ghosts as OfReader}
use Rattle.refusal.specs.declared.Refusal.{Refusal}
use Rattle.machine.specs.Texts.{Text}
use Rattle.machine.specs.Dictionary.{Str}
use Rattle.machine.specs.Selection.{passing}
use Rattle.machine.specs.World.{World, Outcome, p2}
use Rattle.dictionary.specs.Finding.{Standing}
use Rattle.dictionary.specs.Strings.{place_of}
use Rattle.value.specs.declared.sources.Sources.{Sources}
use Rattle.value.specs.declared.value.Value.{Value}
use Rattle.value.specs.Taking.{text_from, Stands}
use Rattle.plan.specs.declared.effect.Effect.TheVariants.{MovePointer}
use Rattle.plan.specs.Plans.{GoesOn, Stops, Planned, Refused}
use Rattle.plan.proofs.Planning.{stopped_at, then_plans}
use Rattle.class_plans.specs.declared.run.Run.{Run}
use Rattle.class_plans.specs.Reading.{run_read, run_in}

module _ {C R : Type 0} {code : OfCode C} {reader : OfReader R} (s : Sources C R code reader) (text : Str × ℕ → Text) where
  -- with this text of the string and the run
  abbrev pub passing_run : World → Str × ℕ → Outcome
  passing_run w b = passing (p2 s.parameters.now) b.0 b.1 (text b) w

  pub no_run : (e : Refusal) → Stops s (run_read code.meaning s.parameters.now) e → Refused s (λ w. run_read code.meaning s.parameters.now w (passing_run w)) e
  no_run e h = stopped_at s (run_read code.meaning s.parameters.now) passing_run e h

  pub run_passed : (r : Run) (v : Value) → Standing s.dictionary.now s.store.now (p2 s.parameters.now) (place_of r.string) → Stands s v → GoesOn s (run_read code.meaning s.parameters.now) (run_in s.store.now r) → text_from s v ≡ text (run_in s.store.now r) → Planned s (λ w. run_read code.meaning s.parameters.now w (passing_run w)) (record { value = v; effect = MovePointer 1 r.string (r.string.extent.pointer + r.len) })
  run_passed r v standing stands h is =
      then_plans s (run_read code.meaning s.parameters.now) passing_run (run_in s.store.now r) (Ok (record { value = v; effect = MovePointer 1 r.string (r.string.extent.pointer + r.len) })) h
      (record { stands = stands; may = record { standing = standing; within = r.within }; comes = λ w sees. rw (← is) refl })
