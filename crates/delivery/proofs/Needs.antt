-- The need of a call's value. It is capped, as the length of the value in it is. Assumes nothing.
use Rattle.std.proofs.Common.{◌≡◌, ℕ, ◌+◌, ◌^◌, ◌<◌, ◌≤◌, length, ap₂, ◌∙◌, arith, subst}
use Rattle.refusal.specs.declared.Refusal.{Refusal}
use Rattle.machine.specs.Texts.{Text}
use Rattle.machine.specs.Chain.{kind, amount}
use Rattle.meter.specs.declared.meter.Meter.{Meter}
use Rattle.meter.specs.declared.question.Question.{Question}
use Rattle.meter.specs.Metered.{asked, Passed, Short}
use Rattle.value.specs.Texts.{capped}

module _ (held long n need bound : ℕ) (n_is : n ≡ capped long) (need_is : need ≡ capped (held + n)) where
  -- a length that fits is exact
  pub exact_length : need ≤ bound → bound < 2 ^ 63 → n ≡ long
  exact_length h k = grind arith

  exact_need : need ≤ bound → bound < 2 ^ 63 → need ≡ held + long
  exact_need h k = grind arith

  no_more : need ≤ held + long
  no_more = grind arith

-- x and y are the left and the right text, as code has them
module _ (q : Question) (m m' : Meter) (x y left right : Text) (long n need : ℕ) (left_is : x ≡ left) (right_is : y ≡ right) (n_is : n ≡ capped long) (need_is : need ≡ capped (length x + length y + n)) where
  same : need ≡ capped (length left + length right + n)
  same = need_is ∙ ap₂ (λ (a b : Text). capped (length a + length b + n)) left_is right_is

  pub passed_exactly : amount (kind (asked q)) m.bounds < 2 ^ 63 → Passed q need m m' → Passed q (length left + length right + long) m m'
  passed_exactly small p = subst (λ k. Passed q k m m') (exact_need _ long n need _ n_is same p.fits small) p

  pub short_at_least : (e : Refusal) → Short q need m m' e → Short q (length left + length right + long) m m' e
  short_at_least e s =
      let less = no_more (length left + length right) long n need 0 n_is same in
      record { says = s.says; misfits = omega (arith, s.misfits, less); unchanged = s.unchanged }
