-- The search of the first byte that passes a test, byte by byte. Assumes nothing.
use Rattle.std.proofs.Common.{◌≡◌, ℕ, suc, ◌+◌, ◌<◌, Bool, true, false, cond, not, ◌&&◌, is_some, List, [], ◌∷◌, length, get_or, drop, Some, None, Option, refl, ap, sym, ◌∙◌, arith}
use Rattle.std.specs.Option.{option_map}
use Rattle.std.specs.List.{list_all}
use Rattle.std.proofs.lemmas.List.{at_drop_more}
use Rattle.machine.specs.Texts.{first_place}

-- a place counted from n on
abbrev pub from : ℕ → Option ℕ → Option ℕ
from n o = option_map (λ k. n + k) o

module _ (test : ℕ → Bool) (text : List ℕ) where
  -- what is left of the search is what is left of the whole
  abbrev pub Searched : ℕ → Type 0
  Searched n = first_place test text ≡ from n (first_place test (drop n text))

  from_zero : (o : Option ℕ) → o ≡ from 0 o
  from_zero None = refl
  from_zero (Some k) = ap Some (omega arith)

  pub at_first : Searched 0
  at_first = from_zero (first_place test text)

  from_suc : (n : ℕ) (o : Option ℕ) → from n (option_map suc o) ≡ from (n + 1) o
  from_suc n None = refl
  from_suc n (Some k) = ap Some (omega arith)

  pub passed_by : (n : ℕ) → n < length text → test (get_or text n 0) ≡ false → Searched n → Searched (n + 1)
  passed_by n h is s =
      s ∙ at_drop_more (λ r. from n (first_place test r)) text n 0 h ∙ rw is (from_suc n (first_place test (drop (n + 1) text)))

  pub found : (n : ℕ) → n < length text → test (get_or text n 0) ≡ true → Searched n → Some n ≡ first_place test text
  found n h is s =
      sym (s ∙ at_drop_more (λ r. from n (first_place test r)) text n 0 h ∙ rw is (ap Some (omega arith)))

  pub none_left : (n : ℕ) → drop n text ≡ [] → Searched n → None ≡ first_place test text
  none_left n h s = sym (s ∙ ap (λ r. from n (first_place test r)) h)

-- all pass a test, or the search of one that does not finds one
step : (t : Bool) (o : Option ℕ) (r : Bool) → r ≡ not (is_some o) → (t && r) ≡ not (is_some (cond (not t) (Some 0) (option_map suc o)))
step true None r h = h
step true (Some k) r h = h
step false o r h = refl

pub all_or_some : (f : ℕ → Bool) (s : List ℕ) → list_all f s ≡ not (is_some (first_place (λ b. not (f b)) s))
all_or_some f [] = refl
all_or_some f (b ∷ bs) = step (f b) (first_place (λ x. not (f x)) bs) (list_all f bs) (all_or_some f bs)
