use Rattle.std.proofs.Common.{sym, ap, ◌∙◌, Err}
use Rattle.std.proofs.lemmas.Result.{err_from_is_err_and}
use Rattle.machine.specs.Numbers.{read_integer}
use Rattle.number.proofs.Asked.{if_ok_by, one_none, one_some, one_small}
use Rattle.number.proofs.asking.read_one.Goals as goal

pub returns-in_err-read-clause-comes_to : goal.returns-in_err-read-clause-comes_to
returns-in_err-read-clause-comes_to g c =
    let p = err_from_is_err_and c.from_residual.result c.from_residual.ensures.1 in
    one_none (read_integer g.C.Code.meaning c.args.text.now) c.args.most c.from_residual.result c.in_err-read.field-0.0 (sym c.read.ensures ∙ c.in_err-read.was) (p.1 ∙ ap Err p.2)

pub returns-clause-comes_to : goal.returns-clause-comes_to
returns-clause-comes_to g c =
    one_some (read_integer g.C.Code.meaning c.args.text.now) c.in_ok-read.field-0 c.args.most c.within.result (sym c.read.ensures ∙ c.in_ok-read.was) (record { at = c.within.ensures })

pub returns-clause-small : goal.returns-clause-small
returns-clause-small g c =
    if_ok_by _ c.within.result (one_small g.C.Code.meaning c.args.text.now c.in_ok-read.field-0 c.args.most c.within.result (sym c.read.ensures ∙ c.in_ok-read.was) (record { at = c.within.ensures }))
