-- Runs of members.
use Rattle.std.proofs.Common.{◌≡◌, ℕ, suc, ◌+◌, Bool, true, false, List, [], ◌∷◌, take, refl, ap, arith}
use Rattle.std.specs.List.{prefix_len}
use Rattle.code.specs.Meaning.{marked}
use Rattle.machine.specs.Texts.{Text, Code, without_marks}
use Rattle.machine.specs.Dictionary.{member}
use Rattle.machine.specs.Classes.{in_class}

-- the run that a text begins with
abbrev pub run : Code → List Bool → Text → Text
run code members t = take (prefix_len (in_class code members) t) t

longer : (n b : ℕ) (bs : Text) → take (1 + n) (b ∷ bs) ≡ b ∷ take n bs
longer n b bs = let next : 1 + n ≡ suc n = omega arith in rw next refl

module _ (code : Code) (members : List Bool) where
  one_more : (b : ℕ) (bs : Text) (m k : Bool) → member members b ≡ m → marked code b ≡ k → without_marks code (run code members bs) ≡ run code members bs → without_marks code (run code members (b ∷ bs)) ≡ run code members (b ∷ bs)
  one_more b bs false k is_m is_k rest = rw is_m refl
  one_more b bs true true is_m is_k rest = rw (is_m, is_k) refl
  one_more b bs true false is_m is_k rest = rw (is_m, is_k, longer (prefix_len (in_class code members) bs) b bs, is_k) (ap (λ (t : Text). b ∷ t) rest)

  -- none of its bytes is a mark
  pub run_has_no_marks : (t : Text) → without_marks code (run code members t) ≡ run code members t
  run_has_no_marks [] = refl
  run_has_no_marks (b ∷ bs) = one_more b bs (member members b) (marked code b) refl refl (run_has_no_marks bs)
