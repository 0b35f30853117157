use Rattle.std.proofs.Common.{ap, sym, arith, rules, length, ℕ}
use Rattle.std.proofs.lemmas.Fmt.{decimal_digit, decimal_step, length-decimal-le}
use Rattle.std.proofs.lemmas.List.{length-append}
use Rattle.number.proofs.writing.+digit_count.Goals as goal

pub overflow_add-result : goal.overflow_add-result
overflow_add-result t c = search (rules, length-decimal-le 20)

pub returns-then-number-lt10 : goal.returns-then-number-lt10
returns-then-number-lt10 t c = sym (ap length (decimal_digit c.args.number c.if-number-lt10.true))

pub returns-else-number-lt10 : goal.returns-else-number-lt10
returns-else-number-lt10 t c =
    let step = ap length (decimal_step c.args.number c.if-number-lt10.false (search rules)) in
    omega (arith, step, length-append {A = ℕ})
