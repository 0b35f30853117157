-- Digits written one after the other.
use Rattle.std.proofs.Common.{◌≡◌, ℕ, ◌+◌, ◌%◌, ◌/◌, ◌<◌, ◌≤◌, ◌^◌, true, List, [], ◌∷◌, ◌++◌, length, drop, get_or, codes, refl, sym, ap, ◌∙◌, arith, eqb}
use Rattle.std.proofs.Math.ListN.{set}
use Rattle.std.specs.Prelude.{decimal}
use Rattle.std.proofs.lemmas.Bool.{agree_below_at, eqb-true}
use Rattle.std.proofs.lemmas.Fmt.{decimal_digit, decimal_step}
use Rattle.std.proofs.lemmas.List.{append_assoc, length-append, length-map, get_or-map, map_push, set_at, drop_more}
use Rattle.machine.specs.Texts.{Text, Code, spelled}

-- the digits of a code, by their values
pub digit_sign : (code : Code) (d : ℕ) → d < 10 → get_or (spelled code (codes "0123456789")) d 0 ≡ code.named (48 + d)
digit_sign code d h =
    let chars = codes "0123456789" in
    get_or-map code.named chars d 0 0 h ∙ ap code.named (eqb-true _ _ (agree_below_at (λ d. eqb (get_or chars d 0) (48 + d)) (λ _. true) 10 d refl h))

-- All digits but the last are written, at the beginning of `old`: `out` is what stands then, and `front` says how many they are.
pub record AllButLast (code : Code) (number : ℕ) (old : Text) (front : ℕ) (out : Text) : Type 0 where
  pub digits : List ℕ
  pub len : front ≡ length digits
  pub written : out ≡ spelled code digits ++ drop front old
  pub number_is : decimal number ≡ digits ++ (48 + number % 10) ∷ []

pub one_digit : (code : Code) (number : ℕ) (old out : Text) (front : ℕ) → number < 10 → front ≡ 0 → out ≡ old → AllButLast code number old front out
one_digit code number old out front h none same = record {
  digits = [];
  len = none;
  written = same ∙ ap (λ n. drop n old) (sym none);
  number_is = decimal_digit number h ∙ ap (λ d. (48 + d) ∷ []) (omega arith);
}

pub more_digits : (code : Code) (number : ℕ) (old out : Text) (front : ℕ) → 10 ≤ number → number < 2 ^ 64 → front ≡ length (decimal (number / 10))
    → out ≡ spelled code (decimal (number / 10)) ++ drop front old → AllButLast code number old front out
more_digits code number old out front h fits len written = record { digits = decimal (number / 10); len = len; written = written; number_is = decimal_step number h fits }

pub last_len : (code : Code) (number : ℕ) (old : Text) (front : ℕ) (out : Text) → AllButLast code number old front out → front + 1 ≡ length (decimal number)
last_len code number old front out a = omega (arith, a.len, ap length a.number_is, length-append a.digits ((48 + number % 10) ∷ []))

-- and then the last
pub last_digit : (code : Code) (number : ℕ) (old : Text) (front : ℕ) (out : Text) (sign : ℕ) → AllButLast code number old front out → length (decimal number) ≤ length old
    → sign ≡ code.named (48 + number % 10) → set out front sign ≡ spelled code (decimal number) ++ drop (front + 1) old
last_digit code number old front out sign a h is =
    let room : front < length old = omega (arith, last_len code number old front out a) in
    let front_len : length (spelled code a.digits) ≡ front = length-map a.digits code.named ∙ sym a.len in
    let out_is : out ≡ spelled code a.digits ++ get_or old front 0 ∷ drop (front + 1) old = a.written ∙ ap (λ t. spelled code a.digits ++ t) (drop_more old front 0 room) in
    let all : spelled code (decimal number) ≡ spelled code a.digits ++ code.named (48 + number % 10) ∷ [] = ap (spelled code) a.number_is ∙ map_push code.named a.digits (48 + number % 10) in
    ap (λ t. set t front sign) out_is
    ∙ set_at (spelled code a.digits) (get_or old front 0) (drop (front + 1) old) sign front front_len
    ∙ ap (λ b. spelled code a.digits ++ b ∷ drop (front + 1) old) is
    ∙ sym (append_assoc (spelled code a.digits) (code.named (48 + number % 10) ∷ []) (drop (front + 1) old))
    ∙ ap (λ t. t ++ drop (front + 1) old) (sym all)
