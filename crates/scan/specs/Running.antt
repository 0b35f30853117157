-- Plain text at the front of the right text. Assumes nothing.
use Rattle.std.specs.Prelude.{◌≡◌, ◌≢◌, ℕ, ◌+◌, ◌-◌, ◌<◌, ◌≤◌, min, Bool, length, drop}
use Rattle.machine.specs.declared.rule.Rule.TheVariants.{Other}
use Rattle.machine.specs.Texts.{Text, Code, not_empty}
use Rattle.machine.specs.Chain.{walk}
use Rattle.machine.specs.World.{World}
use Rattle.machine.specs.Scan.{rule, scanning}
use Rattle.meter.specs.declared.meter.Meter.{Meter}
use Rattle.meter.specs.Metered.{tally}
use Rattle.scan.specs.declared.texts.ScanTexts.{ScanTexts}
use Rattle.scan.specs.declared.roll.Roll.{Roll}
use Rattle.scan.specs.Texts.{right_of, SameArea}
use Rattle.scan.specs.Standing.{state_in}

-- a text goes by the last rule, or does not
pub record ByLast (code : Code) (within_call : Bool) (text : Text) : Type 0 where
  pub is_last : rule code within_call text ≡ Other

pub record ByAnother (code : Code) (within_call : Bool) (text : Text) : Type 0 where
  pub is_another : rule code within_call text ≢ Other

-- the first n bytes, each with what follows it, go by the last rule, and no longer run does
pub record PlainRun (code : Code) (within_call : Bool) (right : Text) (n : ℕ) : Type 0 where
  pub within : n ≤ length right
  pub plain : (k : ℕ) → k < n → ByLast code within_call (drop k right)
  pub longest : n < length right → ByAnother code within_call (drop n right)

-- A plain run was passed, as far as steps were left: n of them were made before, n' are now, and the scan goes on from there.
pub record Passes (code : Code) (t t' : ScanTexts) (q : Roll) (m m' : Meter) (n n' : ℕ) : Type 0 where
  pub run : ℕ
  pub is_plain : PlainRun code (not_empty q.entries.items) (right_of t) run
  pub as_far : n' ≡ n + min run (m.bounds.steps - n)
  pub same_scan : (more : ℕ) (w : World) → walk m.bounds (tally m) (scanning code (min run (m.bounds.steps - n) + more) n (state_in t q w)) ≡ walk m'.bounds (tally m') (scanning code more n' (state_in t' q w))
  pub bounds_stay : m'.bounds ≡ m.bounds
  pub same_area : SameArea t t'
