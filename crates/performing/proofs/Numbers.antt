-- The numbers of segment marks.
use Rattle.std.proofs.Common.{◌≡◌, ℕ, suc, ◌<◌, ◌≤◌, Bool, true, false, cond, ◌&&◌, leb, [], ◌∷◌, get_or, Some, None, Option, refl, arith}
use Rattle.std.specs.Option.{unwrap_or}
use Rattle.std.proofs.lemmas.Bool.{leb-true, leb-false, le-leb}
use Rattle.code.specs.Meaning.{CodeLaws, mark_of}
use Rattle.machine.specs.Texts.{Text, Code, highest_mark}

-- there are 62
pub highest_known : (code : Code) → CodeLaws code → (t : Text) → ((k : ℕ) → get_or t k 0 < 256) → highest_mark code t ≤ 62
highest_known code laws [] bytes = omega arith
highest_known code laws (b ∷ bs) bytes =
    let behind : highest_mark code bs ≤ 62 = highest_known code laws bs (λ k. bytes (suc k)) in
    let here : unwrap_or (code.mark_number b) 0 ≤ 62 = go (code.mark_number b) (laws.mark_of_number b) in
    omega arith
  where
    go : (o : Option ℕ) → ((n : ℕ) → b < 256 → o ≡ Some n → (1 ≤ n) × (n ≤ 62) × (code.segment_mark n ≡ b)) → unwrap_or o 0 ≤ 62
    go None h = omega arith
    go (Some n) h = (h n (bytes 0) refl).1

-- a mark that there is, and one that there is not

abbrev mark_if : Bool → ℕ → Option ℕ
mark_if there mark = cond there (Some mark) None

pub record Marked (code : Code) (n mark : ℕ) : Type 0 where
  pub known : n ≤ 62
  pub mark_is : mark ≡ code.segment_mark n

pub mark_there : (code : Code) (n mark : ℕ) → Some mark ≡ mark_of code n → Marked code n mark
mark_there code n mark h = go (leb 1 n) (leb n 62) refl h
  where
    go : (low high : Bool) → leb n 62 ≡ high → Some mark ≡ mark_if (low && high) (code.segment_mark n) → Marked code n mark
    go true true e h = record { known = leb-true n 62 e; mark_is = cc }
    go true false e h = cc
    go false high e h = cc

pub mark_absent : (code : Code) (n : ℕ) → 1 ≤ n → None ≡ mark_of code n → 62 < n
mark_absent code n least h = go (leb 1 n) (leb n 62) (le-leb 1 n least) refl h
  where
    go : (low high : Bool) → low ≡ true → leb n 62 ≡ high → None ≡ mark_if (low && high) (code.segment_mark n) → 62 < n
    go true true l e h = cc
    go true false l e h = leb-false n 62 e
    go false high l e h = cc
