-- Strings that are read pair by pair.
use Rattle.std.proofs.Common.{◌≡◌, ℕ, zero, suc, ◌+◌, ◌*◌, ◌%◌, ◌<◌, ◌≤◌, List, [], ◌∷◌, ◌++◌, drop, length, get_or, Some, None, Option, refl, ap, append_assoc, arith, add-one, drop-cons, Bor}
use Rattle.std.proofs.lemmas.List.{drop_all, append-nil}
use Rattle.std.specs.Option.{option_map}
use Rattle.std.specs.Simd.{first_chunks}
use Rattle.library.specs.Meaning.{NamedString}
use Rattle.library_cases.specs.Words.{texts, bytes_of}
use Rattle.library_cases.specs.Commands.{string_of, string_before, strings_in}

-- no word
abbrev pub no_word : Bor (List ℕ)
no_word = record { ref_ptr = (0, 0); now = [] }

-- the string that a pair of words is
abbrev pub string_in_pair : List (Bor (List ℕ)) → Option NamedString
string_in_pair pair = string_of (bytes_of (get_or pair 0 no_word).now) (bytes_of (get_or pair 1 no_word).now)

abbrev pub strings_in_pairs : List (List (Bor (List ℕ))) → Option (List NamedString)
strings_in_pairs [] = Some []
strings_in_pairs (pair ∷ pairs) = string_before (string_in_pair pair) (strings_in_pairs pairs)

pub by_pairs : (k : ℕ) (ws : List (Bor (List ℕ))) → length ws ≡ k * 2 → strings_in_pairs (first_chunks 2 k ws) ≡ strings_in (texts ws)
by_pairs zero [] e = refl
by_pairs zero (w ∷ ws) e = absurd (omega (arith, e))
by_pairs (suc k) [] e = absurd (omega (arith, e))
by_pairs (suc k) (w ∷ []) e = absurd (omega (arith, e))
by_pairs (suc k) (w ∷ v ∷ ws) e = ap (string_before (string_of (bytes_of w.now) (bytes_of v.now))) (by_pairs k ws (omega (arith, e)))

before_none : (s : Option NamedString) → string_before s None ≡ None
before_none None = refl
before_none (Some s) = refl

-- a word that is left over
pub odd_none : (ws : List (Bor (List ℕ))) → length ws % 2 ≡ 1 → strings_in (texts ws) ≡ None
odd_none [] odd = absurd (omega (arith, odd))
odd_none (w ∷ []) odd = refl
odd_none (w ∷ v ∷ ws) odd = rw (odd_none ws (omega (arith, odd))) (before_none _)

-- what is read from pair i on, after the strings that are there
abbrev pub from_pair : List NamedString → List (List (Bor (List ℕ))) → ℕ → Option (List NamedString)
from_pair done pairs i = option_map (λ (more : List NamedString). done ++ more) (strings_in_pairs (drop i pairs))

pub at_pair : (done : List NamedString) (pairs : List (List (Bor (List ℕ)))) (i : ℕ) (o : Option NamedString) → i < length pairs → o ≡ string_in_pair (get_or pairs i [])
    → option_map (λ (more : List NamedString). done ++ more) (string_before o (strings_in_pairs (drop (i + 1) pairs))) ≡ from_pair done pairs i
at_pair done pairs i o l is = rw (is, add-one i, drop-cons pairs i [] l) refl

-- a string more is read
pub one_more : (done : List NamedString) (s : NamedString) (o : Option (List NamedString))
    → option_map (λ (more : List NamedString). (done ++ s ∷ []) ++ more) o ≡ option_map (λ (more : List NamedString). done ++ more) (string_before (Some s) o)
one_more done s None = refl
one_more done s (Some more) = ap (λ (xs : List NamedString). Some xs) (append_assoc done (s ∷ []) more)

pub all_read : (done : List NamedString) (pairs : List (List (Bor (List ℕ)))) (i : ℕ) → length pairs ≤ i → Some done ≡ from_pair done pairs i
all_read done pairs i l = rw (drop_all i pairs l, append-nil done) refl
