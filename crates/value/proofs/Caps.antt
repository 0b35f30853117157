-- Sums that stop at the largest usize.
use Rattle.std.proofs.Common.{◌≡◌, ℕ, ◌+◌, ◌-◌, ◌^◌, ◌<◌, ◌≤◌, List, [], ◌++◌, length, min, sym, ◌∙◌, ap, arith}
use Rattle.std.proofs.lemmas.List.{length-append}
use Rattle.value.specs.Texts.{capped}

-- the length of what is done and of what is left is that of the whole, as far as a usize has it
pub record Counted (n : ℕ) (rest whole : List ℕ) : Type 0 where
  pub bounded : n ≤ 2 ^ 64 - 1
  pub together : capped (n + length rest) ≡ capped (length whole)

min_more : (m n p r : ℕ) → min (min (n + p) m + r) m ≡ min (n + (p + r)) m
min_more m n p r = grind arith

min_below : (m n : ℕ) → min n m ≤ m
min_below m n = grind arith

pub counted_more : {n : ℕ} {left whole : List ℕ} (piece rest : List ℕ) (after : ℕ) → Counted n left whole → left ≡ piece ++ rest → after ≡ capped (n + length piece) → Counted after rest whole
counted_more {n} {left} {whole} piece rest after so cut is = record {
  bounded = rw is (min_below (2 ^ 64 - 1) (n + length piece));
  together =
      ap (λ k. capped (k + length rest)) is
      ∙ min_more (2 ^ 64 - 1) n (length piece) (length rest)
      ∙ ap (λ k. capped (n + k)) (sym (length-append piece rest))
      ∙ ap (λ t. capped (n + length t)) (sym cut)
      ∙ so.together;
}

min_same : (m n : ℕ) → n ≤ m → n ≡ min (n + 0) m
min_same m n h = grind arith

pub counted_all : {n : ℕ} {left whole : List ℕ} → Counted n left whole → left ≡ [] → n ≡ capped (length whole)
counted_all {n} {left} {whole} so none =
    min_same (2 ^ 64 - 1) n so.bounded ∙ ap (λ t. capped (n + length t)) (sym none) ∙ so.together

-- a length that a usize has is exact
pub exact : (n k : ℕ) → capped n ≡ k → k < 2 ^ 64 - 1 → n ≡ k
exact n k is below = grind arith
