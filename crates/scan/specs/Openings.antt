-- The last entry of a roll that opens a call. Assumes nothing.
use Rattle.std.specs.Prelude.{◌≡◌, ℕ, ◌<◌, Bool, true, false, List, length, Option, MatchOption}
use Rattle.machine.specs.declared.roll.RollEntry.{RollEntry}
use Rattle.machine.specs.Scan.{opens, entry_at}

-- does entry k open a call?
abbrev pub Opens : List RollEntry → ℕ → Bool → Type 0
Opens roll k b = opens (entry_at roll k).begins ≡ b

-- none of the entries behind place i opens one
abbrev pub NoneBehind : List RollEntry → ℕ → Type 0
NoneBehind roll i = (k : ℕ) → i < k → k < length roll → Opens roll k false

-- its place, or that there is none
abbrev pub LastOpening : List RollEntry → Option ℕ → Type 0
LastOpening roll r = MatchOption r ((k : ℕ) → k < length roll → Opens roll k false) (λ i. (i < length roll) × Opens roll i true × NoneBehind roll i)
