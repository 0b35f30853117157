use Rattle.std.proofs.Common.{ℕ, ◌%◌, ◌/◌, ap, sym, ◌∙◌, arith, length, rules, get_or, drop, ◌++◌}
use Rattle.std.proofs.lemmas.Fmt.{decimal_step}
use Rattle.std.proofs.lemmas.List.{length-append}
use Rattle.std.specs.Prelude.{decimal}
use Rattle.machine.specs.Texts.{spelled}
use Rattle.number.proofs.Written.{digit_sign, AllButLast, one_digit, more_digits, last_len, last_digit}
use Rattle.number.proofs.writing.+write_digits.Goals as goal
use Rattle.number.proofs.writing.+write_digits.Goals.{then-number-lt10, else-number-lt10}

pub write_digits-front-requires : goal.write_digits-front-requires
write_digits-front-requires g t c κs within =
    let step = ap length (decimal_step c.args.number c.if-number-lt10.false (search rules)) in
    (search rules, (search rules, omega (arith, step, length-append {A = ℕ})))

pub bounds-out-front : goal.bounds-out-front
bounds-out-front g t c =
    let code = g.C.Code.meaning in
    let front : AllButLast code c.args.number c.args.out.now c.if-number-lt10.front c.if-number-lt10.out = elim c.if-number-lt10.branch [
      | then-number-lt10 w ↦ one_digit code c.args.number c.args.out.now c.if-number-lt10.out c.if-number-lt10.front w.if-number-lt10.true w.front-is w.out-is
      | else-number-lt10 w ↦ more_digits code c.args.number c.args.out.now c.if-number-lt10.out c.if-number-lt10.front w.if-number-lt10.false (search rules) (w.front-is ∙ w.write_digits-front.ensures.len)
          (w.out-is ∙ w.write_digits-front.ensures.after ∙ ap (λ n. spelled code (decimal (c.args.number / 10)) ++ drop n c.args.out.now) (sym w.front-is))
    ] in
    omega (arith, last_len code c.args.number c.args.out.now c.if-number-lt10.front c.if-number-lt10.out front)

pub returns-clause-len : goal.returns-clause-len
returns-clause-len g t c =
    let code = g.C.Code.meaning in
    let front : AllButLast code c.args.number c.args.out.now c.if-number-lt10.front c.if-number-lt10.out = elim c.if-number-lt10.branch [
      | then-number-lt10 w ↦ one_digit code c.args.number c.args.out.now c.if-number-lt10.out c.if-number-lt10.front w.if-number-lt10.true w.front-is w.out-is
      | else-number-lt10 w ↦ more_digits code c.args.number c.args.out.now c.if-number-lt10.out c.if-number-lt10.front w.if-number-lt10.false (search rules) (w.front-is ∙ w.write_digits-front.ensures.len)
          (w.out-is ∙ w.write_digits-front.ensures.after ∙ ap (λ n. spelled code (decimal (c.args.number / 10)) ++ drop n c.args.out.now) (sym w.front-is))
    ] in
    last_len code c.args.number c.args.out.now c.if-number-lt10.front c.if-number-lt10.out front

pub returns-clause-after : goal.returns-clause-after
returns-clause-after g t c =
    let code = g.C.Code.meaning in
    let front : AllButLast code c.args.number c.args.out.now c.if-number-lt10.front c.if-number-lt10.out = elim c.if-number-lt10.branch [
      | then-number-lt10 w ↦ one_digit code c.args.number c.args.out.now c.if-number-lt10.out c.if-number-lt10.front w.if-number-lt10.true w.front-is w.out-is
      | else-number-lt10 w ↦ more_digits code c.args.number c.args.out.now c.if-number-lt10.out c.if-number-lt10.front w.if-number-lt10.false (search rules) (w.front-is ∙ w.write_digits-front.ensures.len)
          (w.out-is ∙ w.write_digits-front.ensures.after ∙ ap (λ n. spelled code (decimal (c.args.number / 10)) ++ drop n c.args.out.now) (sym w.front-is))
    ] in
    let sign = get_or c.args.signs.now.digits (c.args.number % 10) 0 in
    let sign_is = ap (λ t. get_or t (c.args.number % 10) 0) c.args.signs.now.digits_are ∙ digit_sign code (c.args.number % 10) (omega arith) in
    last_digit code c.args.number c.args.out.now c.if-number-lt10.front c.if-number-lt10.out sign front c.requires sign_is
