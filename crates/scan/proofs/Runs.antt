-- Plain text that moves in a run. Assumes nothing.
use Rattle.std.proofs.Common.{ℕ, ◌<◌, ◌≤◌, Bool, length, drop, Some, None, Option, MatchOption, arith}
use Rattle.std.specs.Option.{unwrap_or}
use Rattle.machine.specs.Texts.{Text, Code}
use Rattle.scan.specs.Running.{ByLast, ByAnother, PlainRun}

module _ (code : Code) (within_call : Bool) (right : Text) where
  pub run_found : (r : Option ℕ) →
      MatchOption r ((k : ℕ) → 0 ≤ k → k < length right → ByLast code within_call (drop k right)) (λ i. (0 ≤ i) × (i < length right) × ByAnother code within_call (drop i right) × ((k : ℕ) → 0 ≤ k → k < i → ByLast code within_call (drop k right))) →
      PlainRun code within_call right (unwrap_or r (length right))
  run_found None h = record { within = omega arith; plain = λ k l. h k (omega arith) l; longest = λ l. absurd (omega arith) }
  run_found (Some i) h = record { within = omega arith; plain = λ k l. h.3 k (omega arith) l; longest = λ l. h.2 }
