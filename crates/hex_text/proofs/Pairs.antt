-- A text in hex, pair by pair.
use Rattle.std.proofs.Common.{◌≡◌, ℕ, zero, suc, ◌+◌, ◌*◌, ◌%◌, ◌<◌, ◌≤◌, List, [], ◌∷◌, ◌++◌, drop, length, get_or, Some, None, Option, refl, ap, append_assoc, arith, add-one, drop-cons}
use Rattle.std.proofs.lemmas.List.{drop_all, append-nil}
use Rattle.std.specs.Option.{option_map}
use Rattle.std.specs.Simd.{first_chunks}
use Rattle.hex_text.specs.Hex.{digit_value, two_digits, before, unhexed}
use Rattle.hex_text.proofs.Exact.{reads_in_hex}

abbrev pub unhexed_pairs : List (List ℕ) → Option (List ℕ)
unhexed_pairs [] = Some []
unhexed_pairs (pair ∷ pairs) = before (two_digits (digit_value (get_or pair 0 0)) (digit_value (get_or pair 1 0))) (unhexed_pairs pairs)

pub by_pairs : (k : ℕ) (text : List ℕ) → length text ≡ k * 2 → unhexed_pairs (first_chunks 2 k text) ≡ unhexed text
by_pairs zero [] e = refl
by_pairs zero (c ∷ cs) e = absurd (omega (arith, e))
by_pairs (suc k) [] e = absurd (omega (arith, e))
by_pairs (suc k) (c ∷ []) e = absurd (omega (arith, e))
by_pairs (suc k) (high ∷ low ∷ rest) e = ap (before (two_digits (digit_value high) (digit_value low))) (by_pairs k rest (omega (arith, e)))

-- a digit that is left over
pub odd_none : (text : List ℕ) → length text % 2 ≡ 1 → unhexed text ≡ None
odd_none text odd = go (unhexed text) refl
  where
    go : (o : Option (List ℕ)) → unhexed text ≡ o → unhexed text ≡ None
    go (Some bytes) e = absurd (omega (arith, odd, ((reads_in_hex text bytes).0 e).long))
    go None e = e

-- what is read from pair i on, after the bytes that are there
abbrev pub from_pair : List ℕ → List (List ℕ) → ℕ → Option (List ℕ)
from_pair done pairs i = option_map (λ (more : List ℕ). done ++ more) (unhexed_pairs (drop i pairs))

pub at_pair : (done : List ℕ) (pairs : List (List ℕ)) (i : ℕ) (o : Option ℕ) → i < length pairs
    → o ≡ two_digits (digit_value (get_or (get_or pairs i []) 0 0)) (digit_value (get_or (get_or pairs i []) 1 0))
    → option_map (λ (more : List ℕ). done ++ more) (before o (unhexed_pairs (drop (i + 1) pairs))) ≡ from_pair done pairs i
at_pair done pairs i o l is = rw (is, add-one i, drop-cons pairs i [] l) refl

-- a byte more is read
pub one_more : (done : List ℕ) (byte : ℕ) (o : Option (List ℕ)) → option_map (λ (more : List ℕ). (done ++ byte ∷ []) ++ more) o ≡ option_map (λ (more : List ℕ). done ++ more) (before (Some byte) o)
one_more done byte None = refl
one_more done byte (Some more) = ap (λ (xs : List ℕ). Some xs) (append_assoc done (byte ∷ []) more)

pub all_read : (done : List ℕ) (pairs : List (List ℕ)) (i : ℕ) → length pairs ≤ i → Some done ≡ from_pair done pairs i
all_read done pairs i l = rw (drop_all i pairs l, append-nil done) refl
