-- A segment mark by its digits.
use Rattle.std.proofs.Common.{◌≡◌, ℕ, ◌+◌, ◌/◌, ◌%◌, ◌<◌, ◌≤◌, List, [], ◌∷◌, ◌++◌, decimal, sym, ap, ◌∙◌, subst, arith}
use Rattle.std.proofs.lemmas.Fmt.{decimal_digit, decimal_step}
use Rattle.listing.specs.Listing.{shown_mark}
use Rattle.listing.specs.Runs.{Puts}

braced : (n : ℕ) (digits : List ℕ) → decimal n ≡ digits → 123 ∷ (digits ++ 125 ∷ []) ≡ shown_mark n
braced n digits e = ap (λ (ds : List ℕ). 123 ∷ (ds ++ 125 ∷ [])) (sym e)

two_digits : (n : ℕ) → 10 ≤ n → n < 100 → decimal n ≡ (48 + n / 10) ∷ (48 + n % 10) ∷ []
two_digits n low high =
    decimal_step n low (omega arith) ∙ ap (λ (ds : List ℕ). ds ++ (48 + n % 10) ∷ []) (decimal_digit (n / 10) (omega arith))

pub one_in_mark : (n : ℕ) → n < 10 → 123 ∷ (48 + n % 10) ∷ 125 ∷ [] ≡ shown_mark n
one_in_mark n high =
    let same : n % 10 ≡ n = omega arith in
    rw same (braced n _ (decimal_digit n high))

pub two_in_mark : (n : ℕ) → 10 ≤ n → n < 100 → 123 ∷ (48 + n / 10 % 10) ∷ (48 + n % 10) ∷ 125 ∷ [] ≡ shown_mark n
two_in_mark n low high =
    let same : n / 10 % 10 ≡ n / 10 = omega arith in
    rw same (braced n _ (two_digits n low high))

pub three_in_mark : (n : ℕ) → 100 ≤ n → n < 256 → 123 ∷ (48 + n / 100) ∷ (48 + n / 10 % 10) ∷ (48 + n % 10) ∷ 125 ∷ [] ≡ shown_mark n
three_in_mark n low high =
    let same : n / 100 ≡ n / 10 / 10 = omega arith in
    rw same (braced n _ (decimal_step n (omega arith) (omega arith) ∙ ap (λ (ds : List ℕ). ds ++ (48 + n % 10) ∷ []) (two_digits (n / 10) (omega arith) (omega arith))))

-- the same text, put into a run
pub puts_same : {before after text other : List ℕ} {at end : ℕ} → text ≡ other → Puts before at text after end → Puts before at other after end
puts_same {before} {after} {text} {other} {at} {end} same put = subst (λ (xs : List ℕ). Puts before at xs after end) same put
