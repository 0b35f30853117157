use Rattle.std.proofs.Common.{◌≡◌, sym, ap, ◌∙◌, Err, rules, arith, FitsSigned, w64, unsigned_abs}
use Rattle.std.proofs.lemmas.Int.{to_z-of_z}
use Rattle.std.proofs.lemmas.Result.{err_from_is_err_and}
use Rattle.machine.specs.Numbers.{read_integer}
use Rattle.number.proofs.Asked.{one_small, count_none, count_signed, count_long, count_some}
use Rattle.number.proofs.asking.read_count.Goals as goal

pub returns-in_err-numeral-clause-comes_to : goal.returns-in_err-numeral-clause-comes_to
returns-in_err-numeral-clause-comes_to g c =
    let p = err_from_is_err_and c.from_residual.result c.from_residual.ensures.1 in
    count_none (read_integer g.C.Code.meaning c.args.text.now) _ c.in_err-numeral.field-0.0 (sym c.read.ensures ∙ c.in_err-numeral.was) (p.1 ∙ ap Err p.2)

pub returns-then-numeral-clause-comes_to : goal.returns-then-numeral-clause-comes_to
returns-then-numeral-clause-comes_to g c =
    count_signed (read_integer g.C.Code.meaning c.args.text.now) c.in_ok-numeral.numeral (sym c.read.ensures ∙ c.in_ok-numeral.was) c.if-numeral.true

pub returns-in_err-within-clause-comes_to : goal.returns-in_err-within-clause-comes_to
returns-in_err-within-clause-comes_to g c =
    let p = err_from_is_err_and c.from_residual-in_err-within.result c.from_residual-in_err-within.ensures.1 in
    count_long (read_integer g.C.Code.meaning c.args.text.now) c.in_ok-numeral.numeral c.within.result _ c.in_err-within.field-0.0 (sym c.read.ensures ∙ c.in_ok-numeral.was) c.if-numeral.false
    (record { at = c.within.ensures }) c.in_err-within.was (p.1 ∙ ap Err p.2)

pub returns-clause-comes_to : goal.returns-clause-comes_to
returns-clause-comes_to g c =
    let fits : FitsSigned w64 c.in_ok-within.field-0 = search rules in
    let size : c.unsigned_abs.result ≡ unsigned_abs c.in_ok-within.field-0 = c.unsigned_abs.ensures.value ∙ ap unsigned_abs (to_z-of_z w64 c.in_ok-within.field-0 fits) in
    count_some (read_integer g.C.Code.meaning c.args.text.now) c.in_ok-numeral.numeral c.within.result c.in_ok-within.field-0 c.unsigned_abs.result (sym c.read.ensures ∙ c.in_ok-numeral.was)
    c.if-numeral.false (record { at = c.within.ensures }) c.in_ok-within.was size

pub returns-clause-small : goal.returns-clause-small
returns-clause-small g c =
    let fits : FitsSigned w64 c.in_ok-within.field-0 = search rules in
    let size : c.unsigned_abs.result ≡ unsigned_abs c.in_ok-within.field-0 = c.unsigned_abs.ensures.value ∙ ap unsigned_abs (to_z-of_z w64 c.in_ok-within.field-0 fits) in
    let small = one_small g.C.Code.meaning c.args.text.now c.in_ok-numeral.numeral 9 c.within.result (sym c.read.ensures ∙ c.in_ok-numeral.was) (record { at = c.within.ensures }) c.in_ok-within.field-0 c.in_ok-within.was in
    omega (arith, size, small)
