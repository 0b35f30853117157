use Rattle.std.proofs.Common.{◌≡◌, ℕ, ◌/◌, ◌%◌, ◌+◌, ◌<◌, [], ◌∷◌, ◌∙◌, ap, arith, get_or}
use Rattle.number.proofs.Written.{digit_sign}
use Rattle.value.proofs.filling.four_digits.Goals as goal

pub returns : goal.returns
returns g c =
    let code = g.C.Code.meaning in
    let n = c.args.number in
    let sign : (d : ℕ) → d < 10 → get_or c.args.signs.now.digits d 0 ≡ code.named (48 + d) =
    λ d h. ap (λ t. get_or t d 0) c.args.signs.now.digits_are ∙ digit_sign code d h in
    λ i. sign (n / 1000 % 10) (omega arith) i ∷ sign (n / 100 % 10) (omega arith) i ∷ sign (n / 10 % 10) (omega arith) i ∷ sign (n % 10) (omega arith) i ∷ []
