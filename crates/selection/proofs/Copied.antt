-- Copying what passes a test to the front of an area.
use Rattle.std.proofs.Common.{◌≡◌, ℕ, ◌≤◌, Bool, List, ◌++◌, length, take, drop}
use Rattle.std.specs.List.{filter}

-- What passes of the first i bytes of a text t stands at the front of an area, n bytes; with what passes of the rest it is all that passes.
pub record CopiedSoFar (test : ℕ → Bool) (t before area : List ℕ) (i n : ℕ) : Type 0 where
  pub within : n ≤ length area
  pub size : length area ≡ length before
  pub whole : take n area ++ filter test (drop i t) ≡ filter test t
  pub past : drop n area ≡ drop n before
