-- The order of a code's characters, as a list of bytes from the lowest to the highest. Assumes nothing.
use Rattle.std.specs.Prelude.{◌≡◌, ℕ, suc, ◌-◌, ◌<◌, Bool, true, ◌&&◌, List, [], ◌∷◌, map, Some, ◌==◌, nat_lt}
use Rattle.std.specs.List.{range_with_len, list_any}
use Rattle.code.specs.Meaning.{CodeMeaning, rank_of, ranked}
use Rattle.code.specs.Laws.{every, every_at}

-- the numbers from low to high, with both ends
abbrev pub from_to : ℕ → ℕ → List ℕ
from_to low high = range_with_len low (suc high - low)

abbrev pub among : ℕ → List ℕ → Bool
among b xs = list_any (λ x. b == x) xs

-- each number is less than the next
abbrev pub rising : List ℕ → Bool
rising [] = true
rising (x ∷ []) = true
rising (x ∷ y ∷ ys) = nat_lt x y && rising (y ∷ ys)

-- The list has every byte that the code ranks, and no other, from the lowest to the highest, and these are their ranks.
pub record Order (m : CodeMeaning) (bytes ranks : List ℕ) : Type 0 where
  pub whole : (b : ℕ) → b < 256 → ranked m b ≡ true → among b bytes ≡ true
  pub ranks_are : map (rank_of m) bytes ≡ map Some ranks
  pub ranks_rise : rising ranks ≡ true

-- the same, by three tests that antt computes
pub in_order : (m : CodeMeaning) (bytes ranks : List ℕ) → every 256 (ranked m) (λ b. among b bytes) ≡ true → map (rank_of m) bytes ≡ map Some ranks → rising ranks ≡ true → Order m bytes ranks
in_order m bytes ranks t e r = record {
  whole = every_at 256 (ranked m) (λ b. among b bytes) t;
  ranks_are = e;
  ranks_rise = r;
}
