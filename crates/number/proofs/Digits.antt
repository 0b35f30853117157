-- The place of a digit, and the value of digits that is capped at each step.
use Rattle.std.proofs.Common.{◌≡◌, ℕ, suc, ◌+◌, ◌*◌, ◌<◌, ◌≤◌, ◌^◌, Bool, true, false, not, cond, List, [], ◌∷◌, length, Some, None, refl, sym, ap, ◌∙◌, ltb, arith, lit<}
use Rattle.std.specs.Prelude.{Option, codes, nat_eq}
use Rattle.std.proofs.lemmas.Bool.Decides.{nat_tests}
use Rattle.std.proofs.lemmas.Nat.{mul-le}
use Rattle.std.proofs.Math.Nat.{pow-succ', pow-le-pow_right}
use Rattle.std.proofs.lemmas.Option.{none-some, same_Some, option_and_then_some}
use Rattle.std.specs.Option.{option_map, option_and_then}
use Rattle.std.specs.List.{position_or_len}
use Rattle.machine.specs.Texts.{Text, Code, first_place, spelled}
use Rattle.machine.specs.Numbers.{digit, digits_from, read_digits}
use Rattle.number.specs.Numerals.{capped}

place_later : (n l : ℕ) → option_map suc (cond (ltb n l) (Some n) None) ≡ cond (ltb (1 + n) (suc l)) (Some (1 + n)) None
place_later n l = grind arith

place_next : (b : Bool) (n l : ℕ) (r : Option ℕ) → r ≡ cond (ltb n l) (Some n) None
    → cond b (Some 0) (option_map suc r) ≡ cond (ltb (cond (not b) (1 + n) 0) (suc l)) (Some (cond (not b) (1 + n) 0)) None
place_next true n l r e = grind arith
place_next false n l r e = ap (option_map suc) e ∙ place_later n l

-- the place of the first that passes, in std's words
pub first_place-position : {X : Type 0} (f : X → Bool) (xs : List X) → first_place f xs ≡ cond (ltb (position_or_len f xs) (length xs)) (Some (position_or_len f xs)) None
first_place-position f [] = refl
first_place-position f (x ∷ xs) = place_next (f x) (position_or_len f xs) (length xs) (first_place f xs) (first_place-position f xs)

capped_next : (code : Code) (v w : ℕ) (d : Option ℕ) (bs : Text) → capped v ≡ capped w
    → ((v w : ℕ) → capped v ≡ capped w → option_map capped (digits_from code v bs) ≡ option_map capped (digits_from code w bs))
    → option_map capped (option_and_then (λ d. digits_from code (v * 10 + d) bs) d) ≡ option_map capped (option_and_then (λ d. digits_from code (w * 10 + d) bs) d)
capped_next code v w None bs e rest = refl
capped_next code v w (Some d) bs e rest = rest (v * 10 + d) (w * 10 + d) (omega arith)

-- digits after two values that are the same when capped
pub digits_from-capped : (code : Code) (bs : Text) (v w : ℕ) → capped v ≡ capped w → option_map capped (digits_from code v bs) ≡ option_map capped (digits_from code w bs)
digits_from-capped code [] v w e = ap Some e
digits_from-capped code (b ∷ bs) v w e = capped_next code v w (digit code b) bs e (digits_from-capped code bs)

-- one digit more
pub digits_more : (code : Code) (v w b d : ℕ) (bs : Text) → digit code b ≡ Some d → capped w ≡ capped (v * 10 + d)
    → option_map capped (digits_from code w bs) ≡ option_map capped (digits_from code v (b ∷ bs))
digits_more code v w b d bs e h =
    digits_from-capped code bs w (v * 10 + d) h ∙ ap (λ o. option_map capped (option_and_then (λ d. digits_from code (v * 10 + d) bs) o)) (sym e)

-- no digit
pub digits_stop : (code : Code) (v b : ℕ) (bs : Text) → digit code b ≡ None → option_map capped (digits_from code v (b ∷ bs)) ≡ None
digits_stop code v b bs e = ap (λ o. option_map capped (option_and_then (λ d. digits_from code (v * 10 + d) bs) o)) e

-- a text that is not empty
pub read_digits-some : (code : Code) (t : Text) → 0 < length t → read_digits code t ≡ digits_from code 0 t
read_digits-some code [] h = absurd (omega arith)
read_digits-some code (b ∷ bs) h = refl

below_length : (p l k : ℕ) → cond (ltb p l) (Some p) None ≡ Some k → k < l
below_length p l k e = grind (arith, nat_tests)

-- a digit is below ten
pub digit_below : (code : Code) (b d : ℕ) → digit code b ≡ Some d → d < 10
digit_below code b d e =
    let same = λ (x : ℕ). nat_eq x b in
    let signs = spelled code (codes "0123456789") in
    below_length (position_or_len same signs) (length signs) d (sym (first_place-position same signs) ∙ e)

-- one digit more below a bound
room_more : (v d p r : ℕ) → d < 10 → r < (v * 10 + d + 1) * p → r < (v + 1) * (10 * p)
room_more v d p r h l = omega (arith, mul-le (v * 10 + d + 1) p ((v + 1) * 10) p (omega arith) (omega arith))

digits_from-below : (code : Code) (bs : Text) (v r : ℕ) → digits_from code v bs ≡ Some r → r < (v + 1) * 10 ^ length bs
digits_from-below code [] v r e = omega (arith, same_Some _ _ e)
digits_from-below code (b ∷ bs) v r e =
    option_and_then_some (λ d. digits_from code (v * 10 + d) bs) (digit code b) r e
    (λ d is rest. rw pow-succ' (room_more v d (10 ^ length bs) r (digit_below code b d is) (digits_from-below code bs (v * 10 + d) r rest)))

-- so many digits are below that power of ten
pub read_digits-below : (code : Code) (t : Text) (n : ℕ) → read_digits code t ≡ Some n → n < 10 ^ length t
read_digits-below code [] n e = absurd (none-some n e)
read_digits-below code (b ∷ bs) n e = omega (arith, digits_from-below code (b ∷ bs) 0 n e)

-- what a capped value is the value of
pub uncapped : (o : Option ℕ) (m : ℕ) → option_map capped o ≡ Some m → (n : ℕ) × (o ≡ Some n) × (capped n ≡ m)
uncapped None m e = absurd (none-some m e)
uncapped (Some n) m e = (n, refl, same_Some _ _ e)

-- at most 18 digits are not capped
pub read_digits-kept : (code : Code) (t : Text) (m : ℕ) → option_map capped (read_digits code t) ≡ Some m → length t ≤ 18 → (read_digits code t ≡ Some m) × (m < 10 ^ 18)
read_digits-kept code t m e h =
    let u = uncapped (read_digits code t) m e in
    let below : u.0 < 10 ^ 18 = omega (arith, read_digits-below code t u.0 u.1, pow-le-pow_right {n = 10} (lit< tt) h) in
    let same : u.0 ≡ m = omega (arith, u.2) in
    (u.1 ∙ ap Some same, omega arith)
