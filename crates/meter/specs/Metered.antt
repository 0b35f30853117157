-- A meter as the bounds and the tally of a chain, and what its questions come to there. Assumes nothing.
use Rattle.std.specs.Prelude.{◌≡◌, ℕ, suc, ◌<◌, ◌≤◌, Result, MatchResult}
use Rattle.refusal.specs.declared.Refusal.{Refusal}
use Rattle.refusal.specs.declared.Refusal.TheVariants.{NoCreatedNumber}
use Rattle.machine.specs.Faults.{source?, step?, roll?, names?, store?, print?, value?, shortage}
use Rattle.machine.specs.Faults as machine
use Rattle.machine.specs.Chain.{kind, amount, Tally, passed, wanting}
use Rattle.meter.specs.declared.meter.Meter.{Meter}
use Rattle.meter.specs.declared.question.Question.{Question}
use Rattle.meter.specs.declared.question.Question.TheVariants.{Source, Step, Roll, Names, Store, Print, Value}

-- the machine's question
abbrev pub asked : Question → machine.Question
asked Source = source?
asked Step = step?
asked Roll = roll?
asked Names = names?
asked Store = store?
asked Print = print?
asked Value = value?

abbrev pub tally : Meter → Tally
tally m = record { needs = m.needs; created = m.created; wanted = m.wanted }

-- the need fitted, and was counted
pub record Passed (q : Question) (n : ℕ) (m m' : Meter) : Type 0 where
  pub fits : n ≤ amount (kind (asked q)) m.bounds
  pub bounds_stay : m'.bounds ≡ m.bounds
  pub counted : tally m' ≡ passed (kind (asked q)) n (tally m)

-- it did not, and nothing was
pub record Short (q : Question) (n : ℕ) (m m' : Meter) (refusal : Refusal) : Type 0 where
  pub says : refusal ≡ shortage (asked q)
  pub misfits : amount (kind (asked q)) m.bounds < n
  pub unchanged : m' ≡ m

abbrev pub Asks : Question → ℕ → Meter → Meter → Result (Unit {0}) Refusal → Type 0
Asks q n m m' r = MatchResult r (λ _. Passed q n m m') (λ e. Short q n m m' e)

-- a value wants a created number, and may have this one
pub record Wanted (m m' : Meter) : Type 0 where
  pub bounds_stay : m'.bounds ≡ m.bounds
  pub counted : tally m' ≡ wanting (tally m)

abbrev pub Wants : Meter → Meter → Result ℕ Refusal → Type 0
Wants m m' r =
    Wanted m m' × MatchResult r (λ n. (m.created < 9999) × (n ≡ suc m.created)) (λ e. (9999 ≤ m.created) × (e ≡ NoCreatedNumber))
