-- The numbers of marks: how high they are, and whether they suffice.
use Rattle.std.proofs.Common.{◌≡◌, ℕ, suc, ◌+◌, ◌<◌, ◌≤◌, Bool, true, false, nat_le, cond, List, [], ◌∷◌, length, get_or, Some, None, Option, unwrap_or, refl, sym, ap, ◌∙◌, arith}
use Rattle.std.proofs.lemmas.Bool.{leb-true}
use Rattle.std.proofs.lemmas.Bool.Decides.{nat_tests}
use Rattle.code.specs.Meaning.{CodeLaws, within, mark_of}
use Rattle.machine.specs.Texts.{Text, Code, highest_mark}
use Rattle.machine.specs.Strings.{Segmented, segment_from, matches, with_mark}

number_within : (code : Code) → CodeLaws code → (b : ℕ) → b < 256 → unwrap_or (code.mark_number b) 0 ≤ 62
number_within code laws b byte = go (code.mark_number b) (λ n e. (laws.mark_of_number b n byte e).1)
  where
    go : (o : Option ℕ) → ((n : ℕ) → o ≡ Some n → n ≤ 62) → unwrap_or o 0 ≤ 62
    go None h = omega arith
    go (Some n) h = h n refl

pub highest_within : (code : Code) → CodeLaws code → (t : Text) → ((k : ℕ) → k < length t → get_or t k 0 < 256) → highest_mark code t ≤ 62
highest_within code laws [] bytes = omega arith
highest_within code laws (b ∷ bs) bytes =
    omega (arith, number_within code laws b (bytes 0 (omega arith)), highest_within code laws bs (λ k h. bytes (suc k) (omega arith)))

-- From number h on, numbers suffice where those of all substrings are 62 at most.
pub numbered_is : (code : Code) (h : ℕ) (ps : List Text) (places : ℕ) (t : Text) → h ≤ 62 → (segment_from code (suc h) ps places t).numbered ≡ nat_le (h + length ps) 62
numbered_is code h [] places t low = grind (arith, nat_tests)
numbered_is code h (p ∷ ps) places t low =
    go (nat_le (suc h) 62) refl _ (numbered_is code (suc h) ps (places + matches p t) (with_mark p (code.segment_mark (suc h)) t))
  where
    go : (r : Bool) → nat_le (suc h) 62 ≡ r → (more : Segmented) → (suc h ≤ 62 → more.numbered ≡ nat_le (suc h + length ps) 62)
        → (cond r more (record { marked_text = t; places = places; numbered = false })).numbered ≡ nat_le (h + suc (length ps)) 62
    go true said more counted = counted (leb-true (suc h) 62 said) ∙ ap (λ n. nat_le n 62) (omega arith)
    go false said more counted = grind (arith, nat_tests)

pub numbers_suffice : (code : Code) (h : ℕ) (ps : List Text) (places : ℕ) (t : Text) → h ≤ 62 → (segment_from code (suc h) ps places t).numbered ≡ true → h + length ps ≤ 62
numbers_suffice code h ps places t low enough = leb-true (h + length ps) 62 (sym (numbered_is code h ps places t low) ∙ enough)

-- what a code answers is the mark of that number
pub mark_is : (code : Code) (n m : ℕ) {o : Option ℕ} → o ≡ mark_of code n → o ≡ Some m → m ≡ code.segment_mark n
mark_is code n m answered is = go (within 1 62 n) (sym answered ∙ is)
  where
    go : (r : Bool) → cond r (Some (code.segment_mark n)) None ≡ Some m → m ≡ code.segment_mark n
    go true e = cc
    go false e = cc
