-- What the questions come to, from what was read.
use Rattle.std.proofs.Common.{◌≡◌, ℕ, ◌<◌, ◌^◌, Bool, true, false, cond, ◌&&◌, ℤ, Some, None, Ok, Err, refl, sym, ap, ◌∙◌, nat_le, unsigned_abs}
use Rattle.std.specs.Prelude.{Option, Result, IfOk}
use Rattle.std.specs.Option.{ok_or, option_map}
use Rattle.std.proofs.lemmas.Bool.{cond-true, cond-false, and_from, and_left, and_right, leb-true, not_from_true, not_from_false}
use Rattle.refusal.specs.declared.Refusal.{Refusal}
use Rattle.refusal.specs.declared.Refusal.TheVariants.{NoInteger, SignedInteger, TooManyDigits, NoQuotient}
use Rattle.machine.specs.Texts.{Text, Code}
use Rattle.machine.specs.Faults.{no_integer, signed_integer, too_many_digits, no_quotient}
use Rattle.machine.specs.World.{faults}
use Rattle.machine.specs.Numbers as machine
use Rattle.machine.specs.Numbers.{read_integer}
use Rattle.machine.specs.Arithmetic.{if_one, if_two, divides}
use Rattle.machine.specs.Selection.{if_count}
use Rattle.number.specs.declared.numeral.Numeral.{Numeral}
use Rattle.number.specs.Numerals.{held, value_within}
use Rattle.number.specs.Results.{Attempt, ComesTo, dividing, paired}
use Rattle.number.proofs.Attempts.{refused, tested}
use Rattle.number.proofs.Sizes.{read_integer-below}

pub if_ok_by : {V : Type 0} (P : V → Type 0) (r : Result V Refusal) → ((v : V) → r ≡ Ok v → P v) → IfOk r P
if_ok_by P (Ok v) h = h v refl
if_ok_by P (Err e) h = tt

-- what the test of a length gave

cond_err : (b : Bool) (v : ℤ) (t e : Refusal) → cond b (Ok v) (Err t) ≡ Err e → (b ≡ false) × (e ≡ t)
cond_err true v t e is = absurd (cc)
cond_err false v t e is = (refl, cc)

cond_ok : (b : Bool) (v u : ℤ) (t : Refusal) → cond b (Ok v) (Err t) ≡ Ok u → (b ≡ true) × (u ≡ v)
cond_ok true v u t is = (refl, cc)
cond_ok false v u t is = absurd (cc)

-- what is held of the integer that a text is, if it is one
abbrev pub taken : Option machine.Numeral → Result Numeral Refusal
taken o = ok_or (option_map held o) NoInteger

-- r is the value of what is held, if at most that many digits are written
pub record IsWithin (h : Numeral) (most : ℕ) (r : Result ℤ Refusal) : Type 0 where
  pub at : (n : machine.Numeral) → h ≡ held n → r ≡ value_within n most

-- a text is no integer
pub record IsNone (o : Option machine.Numeral) (e : Refusal) : Type 0 where
  pub is : o ≡ None
  pub says : e ≡ NoInteger

pub none_taken : (o : Option machine.Numeral) (e : Refusal) → taken o ≡ Err e → IsNone o e
none_taken None e is = record { is = refl; says = cc }
none_taken (Some n) e is = absurd (cc)

-- a text is an integer
pub record IsTaken (o : Option machine.Numeral) (h : Numeral) : Type 0 where
  pub n : machine.Numeral
  pub is : o ≡ Some n
  pub held_is : h ≡ held n

pub some_taken : (o : Option machine.Numeral) (h : Numeral) → taken o ≡ Ok h → IsTaken o h
some_taken None h is = absurd (cc)
some_taken (Some n) h is = record { n = n; is = refl; held_is = cc }

-- ONE

pub one_none : (o : Option machine.Numeral) (most : ℕ) (r : Result ℤ Refusal) (e : Refusal) → taken o ≡ Err e → r ≡ Err e → ComesTo (if_one o most) r
one_none o most r e is r_is =
    let none = none_taken o e is in
    refused (if_one o most) r no_integer (r_is ∙ ap Err none.says) (λ w go. ap (λ x. if_one x most w go) none.is)

pub one_some : (o : Option machine.Numeral) (h : Numeral) (most : ℕ) (r : Result ℤ Refusal) → taken o ≡ Ok h → IsWithin h most r → ComesTo (if_one o most) r
one_some o h most r is within =
    let x = some_taken o h is in
    tested (if_one o most) r (nat_le x.n.digits most) too_many_digits x.n.value (within.at x.n x.held_is) (λ w go. ap (λ x. if_one x most w go) x.is)

pub one_small : (code : Code) (t : Text) (h : Numeral) (most : ℕ) (r : Result ℤ Refusal) → taken (read_integer code t) ≡ Ok h → IsWithin h most r
    → (v : ℤ) → r ≡ Ok v → unsigned_abs v < 10 ^ most
one_small code t h most r is within v r_is =
    let x = some_taken (read_integer code t) h is in
    let fits = cond_ok (nat_le x.n.digits most) x.n.value v TooManyDigits (sym (within.at x.n x.held_is) ∙ r_is) in
    rw fits.1 (read_integer-below code t x.n most x.is (leb-true x.n.digits most fits.0))

-- TWO

module _ (a b : Option machine.Numeral) (m n : ℕ) where
  abbrev two : Attempt (ℤ × ℤ)
  two = paired (if_two a b m n)

  pub two_none_x : (r : Result (ℤ × ℤ) Refusal) (e : Refusal) → taken a ≡ Err e → r ≡ Err e → ComesTo two r
  two_none_x r e is r_is =
      let none = none_taken a e is in
      refused two r no_integer (r_is ∙ ap Err none.says) (λ w go. ap (λ x. paired (if_two x b m n) w go) none.is)

  pub two_none_y : (h : Numeral) (r : Result (ℤ × ℤ) Refusal) (e : Refusal) → taken a ≡ Ok h → taken b ≡ Err e → r ≡ Err e → ComesTo two r
  two_none_y h r e a_is b_is r_is =
      let x = some_taken a h a_is in
      let none = none_taken b e b_is in
      refused two r no_integer (r_is ∙ ap Err none.says)
      (λ w go. ap (λ o. paired (if_two o b m n) w go) x.is ∙ ap (λ o. paired (if_two (Some x.n) o m n) w go) none.is)

  -- both texts are integers, and their lengths are tested
  two_tested : (x y : machine.Numeral) (r : Result (ℤ × ℤ) Refusal) → a ≡ Some x → b ≡ Some y
      → r ≡ cond (nat_le x.digits m && nat_le y.digits n) (Ok (x.value, y.value)) (Err TooManyDigits) → ComesTo two r
  two_tested x y r a_is b_is r_is =
      tested two r (nat_le x.digits m && nat_le y.digits n) too_many_digits (x.value, y.value) r_is
      (λ w go. ap (λ o. paired (if_two o b m n) w go) a_is ∙ ap (λ o. paired (if_two (Some x) o m n) w go) b_is)

  pub two_long_x : (h k : Numeral) (s : Result ℤ Refusal) (r : Result (ℤ × ℤ) Refusal) (e : Refusal) → taken a ≡ Ok h → taken b ≡ Ok k
      → IsWithin h m s → s ≡ Err e → r ≡ Err e → ComesTo two r
  two_long_x h k s r e a_is b_is within s_is r_is =
      let x = some_taken a h a_is in
      let y = some_taken b k b_is in
      let long = cond_err (nat_le x.n.digits m) x.n.value TooManyDigits e (sym (within.at x.n x.held_is) ∙ s_is) in
      two_tested x.n y.n r x.is y.is (r_is ∙ ap Err long.1 ∙ sym (cond-false _ _ _ (and_left _ _ long.0)))

  pub two_long_y : (h k : Numeral) (s : Result ℤ Refusal) (r : Result (ℤ × ℤ) Refusal) (e : Refusal) → taken a ≡ Ok h → taken b ≡ Ok k
      → IsWithin k n s → s ≡ Err e → r ≡ Err e → ComesTo two r
  two_long_y h k s r e a_is b_is within s_is r_is =
      let x = some_taken a h a_is in
      let y = some_taken b k b_is in
      let long = cond_err (nat_le y.n.digits n) y.n.value TooManyDigits e (sym (within.at y.n y.held_is) ∙ s_is) in
      two_tested x.n y.n r x.is y.is (r_is ∙ ap Err long.1 ∙ sym (cond-false _ _ _ (and_right _ _ long.0)))

  pub two_some : (h k : Numeral) (s t : Result ℤ Refusal) (u v : ℤ) → taken a ≡ Ok h → taken b ≡ Ok k
      → IsWithin h m s → IsWithin k n t → s ≡ Ok u → t ≡ Ok v → ComesTo two (Ok (u, v))
  two_some h k s t u v a_is b_is within_x within_y s_is t_is =
      let x = some_taken a h a_is in
      let y = some_taken b k b_is in
      let fits_x = cond_ok (nat_le x.n.digits m) x.n.value u TooManyDigits (sym (within_x.at x.n x.held_is) ∙ s_is) in
      let fits_y = cond_ok (nat_le y.n.digits n) y.n.value v TooManyDigits (sym (within_y.at y.n y.held_is) ∙ t_is) in
      two_tested x.n y.n (Ok (u, v)) x.is y.is
      (ap (λ u. Ok (u, v)) fits_x.1 ∙ ap (λ v. Ok (x.n.value, v)) fits_y.1 ∙ sym (cond-true _ _ _ (and_from _ _ fits_x.0 fits_y.0)))

-- A COUNT

module _ (o : Option machine.Numeral) where
  pub count_none : (r : Result ℕ Refusal) (e : Refusal) → taken o ≡ Err e → r ≡ Err e → ComesTo (if_count o) r
  count_none r e is r_is =
      let none = none_taken o e is in
      refused (if_count o) r no_integer (r_is ∙ ap Err none.says) (λ w go. ap (λ x. if_count x w go) none.is)

  signs_are : (h : Numeral) (x : IsTaken o h) (t : Bool) → h.signed ≡ t → x.n.signs ≡ t
  signs_are h x t is = sym (ap (λ (h : Numeral). h.signed) x.held_is) ∙ is

  pub count_signed : (h : Numeral) → taken o ≡ Ok h → h.signed ≡ true → ComesTo (if_count o) (Err SignedInteger)
  count_signed h is signed =
      let x = some_taken o h is in
      refused (if_count o) (Err SignedInteger) signed_integer refl
      (λ w go. ap (λ x. if_count x w go) x.is ∙ cond-false _ _ _ (not_from_true x.n.signs (signs_are h x true signed)))

  -- no sign is written, and the length is tested
  count_tested : (h : Numeral) (x : IsTaken o h) (r : Result ℕ Refusal) → h.signed ≡ false
      → r ≡ cond (nat_le x.n.digits 9) (Ok (unsigned_abs x.n.value)) (Err TooManyDigits) → ComesTo (if_count o) r
  count_tested h x r unsigned r_is =
      tested (if_count o) r (nat_le x.n.digits 9) too_many_digits (unsigned_abs x.n.value) r_is
      (λ w go. ap (λ x. if_count x w go) x.is ∙ cond-true _ _ _ (not_from_false x.n.signs (signs_are h x false unsigned)))

  pub count_long : (h : Numeral) (s : Result ℤ Refusal) (r : Result ℕ Refusal) (e : Refusal) → taken o ≡ Ok h → h.signed ≡ false → IsWithin h 9 s
      → s ≡ Err e → r ≡ Err e → ComesTo (if_count o) r
  count_long h s r e is unsigned within s_is r_is =
      let x = some_taken o h is in
      let long = cond_err (nat_le x.n.digits 9) x.n.value TooManyDigits e (sym (within.at x.n x.held_is) ∙ s_is) in
      count_tested h x r unsigned (r_is ∙ ap Err long.1 ∙ sym (cond-false _ _ _ long.0))

  pub count_some : (h : Numeral) (s : Result ℤ Refusal) (v : ℤ) (n : ℕ) → taken o ≡ Ok h → h.signed ≡ false → IsWithin h 9 s → s ≡ Ok v
      → n ≡ unsigned_abs v → ComesTo (if_count o) (Ok n)
  count_some h s v n is unsigned within s_is n_is =
      let x = some_taken o h is in
      let fits = cond_ok (nat_le x.n.digits 9) x.n.value v TooManyDigits (sym (within.at x.n x.held_is) ∙ s_is) in
      count_tested h x (Ok n) unsigned (ap Ok (n_is ∙ ap unsigned_abs fits.1) ∙ sym (cond-true _ _ _ fits.0))

-- A QUOTIENT

pub undivided : (x y : ℤ) (part : ℤ → ℤ → ℤ) → divides x y ≡ false → ComesTo (dividing x y part) (Err NoQuotient)
undivided x y part e = refused (dividing x y part) (Err NoQuotient) no_quotient refl (λ w go. cond-false (divides x y) (go (part x y)) (faults no_quotient w) e)
