-- Where a piece of a packed text lies that is to replace a part of it. Assumes nothing.
use Rattle.std.specs.Prelude.{ℕ, ◌≤◌, ◌⊎◌}

-- the piece lies before the part, behind it or in it, and not across one of its ends
abbrev pub LiesClear : ℕ → ℕ → ℕ → ℕ → Type 0
LiesClear start end from to = (to ≤ start) ⊎ (end ≤ from) ⊎ ((start ≤ from) × (to ≤ end))
