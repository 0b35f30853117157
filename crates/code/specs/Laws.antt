-- One test that antt computes, and what it shows: a code that passes it keeps the laws. Assumes nothing.
use Rattle.std.specs.Prelude.{◌≡◌, ℕ, zero, suc, ◌<◌, ◌≤◌, Bool, true, false, not, ◌&&◌, ◌||◌, List, [], ◌∷◌, Some, None, Option, ◌==◌, ◌≢◌, nat_le, nat_lt, refl}
use Rattle.std.proofs.Common.{sym, ap, ⊎_elim, arith, lit<}
use Rattle.std.proofs.lemmas.Bool.{false≢true, and_parts, and_from, or_cases, not-true, eqb-true, eqb-false, leb-true, le-leb, ltb-true, cases_eq, cases_order}
use Rattle.code.specs.Meaning.{CodeMeaning, CodeLaws, within, named_char, ranked}

-- A test, and what it shows.

abbrev pub implies : Bool → Bool → Bool
implies p q = not p || q

-- f passes at each number below n that p passes
abbrev pub every : ℕ → (ℕ → Bool) → (ℕ → Bool) → Bool
every zero p f = true
every (suc n) p f = implies (p n) (f n) && every n p f

pub data Test : Type 0 where
  -- this is true
  once : Bool → Test
  -- f passes at each number below n that p passes
  each : ℕ → (ℕ → Bool) → (ℕ → Bool) → Test
  -- f differs at any two numbers below n that p passes
  apart : ℕ → (ℕ → Bool) → (ℕ → ℕ) → Test

abbrev pub passes : Test → Bool
passes (once t) = t
passes (each n p f) = every n p f
passes (apart n p f) = every n p (λ a. every a p (λ b. not (f a == f b)))

abbrev pub Shows : Test → Type 0
Shows (once t) = t ≡ true
Shows (each n p f) = (k : ℕ) → k < n → p k ≡ true → f k ≡ true
Shows (apart n p f) = (a b : ℕ) → a < n → b < n → p a ≡ true → p b ≡ true → f a ≡ f b → a ≡ b

so : (p q : Bool) → implies p q ≡ true → p ≡ true → q ≡ true
so true q t h = t
so false q t h = absurd (false≢true h)

pub every_at : (n : ℕ) (p f : ℕ → Bool) → every n p f ≡ true → (k : ℕ) → k < n → p k ≡ true → f k ≡ true
every_at zero p f t k h e = absurd (omega arith)
every_at (suc n) p f t k h e =
    let both : (implies (p n) (f n) ≡ true) × (every n p f ≡ true) = and_parts (implies (p n) (f n)) (every n p f) t in
    let here : implies (p n) (f n) ≡ true = both.0 in
    ⊎_elim (λ same. so (p k) (f k) (rw same here) e) (λ other. every_at n p f both.1 k (omega (arith, other)) e) (cases_eq k n)

-- the values at a number and at a lower one differ
lower_differs : (n : ℕ) (p : ℕ → Bool) (f : ℕ → ℕ) → passes (apart n p f) ≡ true
    → (a b : ℕ) → a < n → b < a → p a ≡ true → p b ≡ true → f a ≢ f b
lower_differs n p f t a b h l pa pb =
    eqb-false _ _ (not-true _ (every_at a p (λ b. not (f a == f b)) (every_at n p _ t a h pa) b l pb))

shown : (t : Test) → passes t ≡ true → Shows t
shown (once t) h = h
shown (each n p f) h = every_at n p f h
shown (apart n p f) h = λ a b ha hb pa pb e.
    ⊎_elim (λ same. same)
    (⊎_elim (λ l. absurd (lower_differs n p f h b a hb l pb pa (sym e))) (λ l. absurd (lower_differs n p f h a b ha l pa pb e)))
    (cases_order a b)

-- The tests of a code.

abbrev pub is_none : Option ℕ → Bool
is_none None = true
is_none (Some x) = false

abbrev pub is_some_of : Option ℕ → ℕ → Bool
is_some_of None n = false
is_some_of (Some x) n = x == n

-- f passes at the value, if there is one
abbrev pub if_some : Option ℕ → (ℕ → Bool) → Bool
if_some None f = true
if_some (Some x) f = f x

-- no condition
abbrev pub any : ℕ → Bool
any n = true

-- one for each law, in the order of the laws; every named character is below 128
abbrev pub tests : CodeMeaning → List Test
tests m =
    once (nat_lt m.number 256)
    ∷ each 128 named_char (λ c. nat_lt (m.named c) 256)
    ∷ once (nat_lt m.end_of_line 256)
    ∷ each 63 (within 1 62) (λ n. nat_lt (m.segment_mark n) 256)
    ∷ once (nat_lt m.creation_mark 256)
    ∷ each 256 any (λ b. nat_lt (m.lower b) 256)
    ∷ each 128 named_char (λ c. m.character (m.named c))
    ∷ apart 128 named_char m.named
    ∷ once (not (m.character m.end_of_line))
    ∷ once (is_none (m.mark_number m.end_of_line))
    ∷ each 256 any (λ b. if_some (m.mark_number b) (λ n. not (m.character b)))
    ∷ once (not (m.character m.creation_mark))
    ∷ once (is_none (m.mark_number m.creation_mark))
    ∷ once (not (m.creation_mark == m.end_of_line))
    ∷ each 63 (within 1 62) (λ n. is_some_of (m.mark_number (m.segment_mark n)) n)
    ∷ each 256 any (λ b. if_some (m.mark_number b) (λ n. within 1 62 n && m.segment_mark n == b))
    ∷ each 256 m.character (λ b. m.character (m.lower b))
    ∷ once (m.lower m.end_of_line == m.end_of_line)
    ∷ apart 256 (ranked m) m.rank
    ∷ each 256 m.character (λ b. nat_lt (m.rank m.end_of_line) (m.rank b))
    ∷ []

abbrev pub all_pass : List Test → Bool
all_pass [] = true
all_pass (t ∷ ts) = passes t && all_pass ts

abbrev pub lawful : CodeMeaning → Bool
lawful m = all_pass (tests m)

-- What the tests show of a code.

abbrev nth : List Test → ℕ → Test
nth [] k = once true
nth (t ∷ ts) zero = t
nth (t ∷ ts) (suc k) = nth ts k

nth_shown : (ts : List Test) (k : ℕ) → all_pass ts ≡ true → Shows (nth ts k)
nth_shown [] k h = refl
nth_shown (t ∷ ts) zero h = shown t (and_parts (passes t) (all_pass ts) h).0
nth_shown (t ∷ ts) (suc k) h = nth_shown ts k (and_parts (passes t) (all_pass ts) h).1

from_none : (o : Option ℕ) → is_none o ≡ true → o ≡ None
from_none None t = refl
from_none (Some x) t = absurd (false≢true t)

from_some : (o : Option ℕ) (n : ℕ) → is_some_of o n ≡ true → o ≡ Some n
from_some None n t = absurd (false≢true t)
from_some (Some x) n t = ap Some (eqb-true x n t)

within_parts : (low high n : ℕ) → within low high n ≡ true → (low ≤ n) × (n ≤ high)
within_parts low high n t =
    let both : (nat_le low n ≡ true) × (nat_le n high ≡ true) = and_parts (nat_le low n) (nat_le n high) t in
    (leb-true low n both.0, leb-true n high both.1)

within_from : (low high n : ℕ) → low ≤ n → n ≤ high → within low high n ≡ true
within_from low high n l h = and_from (nat_le low n) (nat_le n high) (le-leb low n l) (le-leb n high h)

-- a number that passes the test is below 128
abbrev Bounds : Bool → ℕ → Type 0
Bounds t c = t ≡ true → c < 128

range : (low high c : ℕ) → high < 128 → Bounds (within low high c) c
range low high c l h = omega (arith, (within_parts low high c h).1)

only : (k c : ℕ) → k < 128 → Bounds (c == k) c
only k c l h = omega (arith, eqb-true c k h)

infixl 30 ◌either◌
◌either◌ : {x y : Bool} {c : ℕ} → Bounds x c → Bounds y c → Bounds (x || y) c
◌either◌ {x} {y} p q h = ⊎_elim p q (or_cases x y h)

named_below : (c : ℕ) → named_char c ≡ true → c < 128
named_below c =
    range 97 122 c (lit< tt) either range 65 90 c (lit< tt) either range 48 57 c (lit< tt)
    either only 35 c (lit< tt) either only 60 c (lit< tt) either only 62 c (lit< tt)
    either only 59 c (lit< tt) either only 64 c (lit< tt) either only 44 c (lit< tt)
    either only 43 c (lit< tt) either only 45 c (lit< tt) either only 63 c (lit< tt)

pub laws_of : (m : CodeMeaning) → lawful m ≡ true → CodeLaws m
laws_of m t =
    let test : (k : ℕ) → Shows (nth (tests m) k) = λ k. nth_shown (tests m) k t in
    record {
      number_byte = ltb-true _ _ (test 0);
      named_byte = λ c h. ltb-true _ _ (test 1 c (named_below c h) h);
      end_byte = ltb-true _ _ (test 2);
      mark_byte = λ n l h. ltb-true _ _ (test 3 n (omega arith) (within_from 1 62 n l h));
      creation_byte = ltb-true _ _ (test 4);
      lower_byte = λ b h. ltb-true _ _ (test 5 b h refl);
      named_character = λ c h. test 6 c (named_below c h) h;
      named_apart = λ c d hc hd. test 7 c d (named_below c hc) (named_below d hd) hc hd;
      end_no_character = not-true _ (test 8);
      end_no_mark = from_none _ (test 9);
      mark_no_character = λ b n h e. not-true _ (rw e at (test 10 b h refl));
      creation_no_character = not-true _ (test 11);
      creation_no_mark = from_none _ (test 12);
      creation_no_end = eqb-false _ _ (not-true _ (test 13));
      number_of_mark = λ n l h. from_some _ n (test 14 n (omega arith) (within_from 1 62 n l h));
      mark_of_number = λ b n h e.
          let both : (within 1 62 n ≡ true) × ((m.segment_mark n == b) ≡ true) = and_parts _ _ (rw e at (test 15 b h refl)) in
          let parts : (1 ≤ n) × (n ≤ 62) = within_parts 1 62 n both.0 in
          (parts.0, parts.1, eqb-true _ _ both.1);
      lower_character = test 16;
      lower_end = eqb-true _ _ (test 17);
      rank_apart = test 18;
      end_lowest = λ b h e. ltb-true _ _ (test 19 b h e);
    }
