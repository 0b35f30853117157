-- A need that is told as far as a usize has it, where less is bounded. Assumes nothing.
use Rattle.std.proofs.Common.{◌≡◌, ℕ, ◌<◌, subst, arith}
use Rattle.refusal.specs.declared.Refusal.{Refusal}
use Rattle.machine.specs.Chain.{kind, amount}
use Rattle.meter.specs.declared.meter.Meter.{Meter}
use Rattle.meter.specs.declared.question.Question.{Question}
use Rattle.meter.specs.Metered.{asked, Passed, Short}
use Rattle.dictionary.specs.Needing.{capped}

module _ (q : Question) (told need : ℕ) (told_is : told ≡ capped need) (m m' : Meter) where
  -- passed as told, and so as it is
  pub passes_uncapped : amount (kind (asked q)) m.bounds < 32769 → Passed q told m m' → Passed q need m m'
  passes_uncapped small p =
      let fits = p.fits in
      let same : told ≡ need = omega arith in
      subst (λ n. Passed q n m m') same p

  -- refused as told, and so as it is
  pub falls_short_uncapped : (e : Refusal) → Short q told m m' e → Short q need m m' e
  falls_short_uncapped e s = record { says = s.says; misfits = omega (arith, s.misfits); unchanged = s.unchanged }
