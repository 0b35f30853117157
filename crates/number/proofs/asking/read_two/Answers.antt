use Rattle.std.proofs.Common.{sym, ap, ◌∙◌, Err, rules, FitsSigned, w64}
use Rattle.std.proofs.lemmas.Int.{to_z-of_z}
use Rattle.std.proofs.lemmas.Result.{err_from_is_err_and}
use Rattle.machine.specs.Numbers.{read_integer}
use Rattle.number.proofs.Asked.{one_small, two_none_x, two_none_y, two_long_x, two_long_y, two_some}
use Rattle.number.proofs.asking.read_two.Goals as goal

pub returns-in_err-x-clause-comes_to : goal.returns-in_err-x-clause-comes_to
returns-in_err-x-clause-comes_to g c =
    let x = read_integer g.C.Code.meaning c.args.x.now in
    let y = read_integer g.C.Code.meaning c.args.y.now in
    let p = err_from_is_err_and c.from_residual.result c.from_residual.ensures.1 in
    two_none_x x y c.args.most_x c.args.most_y _ c.in_err-x.field-0.0 (sym c.read.ensures ∙ c.in_err-x.was) (p.1 ∙ ap Err p.2)

pub returns-in_err-y-clause-comes_to : goal.returns-in_err-y-clause-comes_to
returns-in_err-y-clause-comes_to g c =
    let x = read_integer g.C.Code.meaning c.args.x.now in
    let y = read_integer g.C.Code.meaning c.args.y.now in
    let p = err_from_is_err_and c.from_residual-in_err-y.result c.from_residual-in_err-y.ensures.1 in
    two_none_y x y c.args.most_x c.args.most_y c.in_ok-x.x _ c.in_err-y.field-0.0 (sym c.read.ensures ∙ c.in_ok-x.was) (sym c.read-2.ensures ∙ c.in_err-y.was) (p.1 ∙ ap Err p.2)

pub returns-in_err-within-clause-comes_to : goal.returns-in_err-within-clause-comes_to
returns-in_err-within-clause-comes_to g c =
    let x = read_integer g.C.Code.meaning c.args.x.now in
    let y = read_integer g.C.Code.meaning c.args.y.now in
    let p = err_from_is_err_and c.from_residual-in_err-within.result c.from_residual-in_err-within.ensures.1 in
    two_long_x x y c.args.most_x c.args.most_y c.in_ok-x.x c.in_ok-y.y c.within.result _ c.in_err-within.field-0.0 (sym c.read.ensures ∙ c.in_ok-x.was) (sym c.read-2.ensures ∙ c.in_ok-y.was)
    (record { at = c.within.ensures }) c.in_err-within.was (p.1 ∙ ap Err p.2)

pub returns-in_err-within-2-clause-comes_to : goal.returns-in_err-within-2-clause-comes_to
returns-in_err-within-2-clause-comes_to g c =
    let x = read_integer g.C.Code.meaning c.args.x.now in
    let y = read_integer g.C.Code.meaning c.args.y.now in
    let p = err_from_is_err_and c.from_residual-in_err-within-2.result c.from_residual-in_err-within-2.ensures.1 in
    two_long_y x y c.args.most_x c.args.most_y c.in_ok-x.x c.in_ok-y.y c.within-2.result _ c.in_err-within-2.field-0.0 (sym c.read.ensures ∙ c.in_ok-x.was) (sym c.read-2.ensures ∙ c.in_ok-y.was)
    (record { at = c.within-2.ensures }) c.in_err-within-2.was (p.1 ∙ ap Err p.2)

pub returns-clause-comes_to : goal.returns-clause-comes_to
returns-clause-comes_to g c =
    let x = read_integer g.C.Code.meaning c.args.x.now in
    let y = read_integer g.C.Code.meaning c.args.y.now in
    let fits_x : FitsSigned w64 c.in_ok-within.field-0 = search rules in
    let fits_y : FitsSigned w64 c.in_ok-within-2.field-0 = search rules in
    simp (to_z-of_z w64 c.in_ok-within.field-0 fits_x, to_z-of_z w64 c.in_ok-within-2.field-0 fits_y)
    (two_some x y c.args.most_x c.args.most_y c.in_ok-x.x c.in_ok-y.y c.within.result c.within-2.result c.in_ok-within.field-0 c.in_ok-within-2.field-0
    (sym c.read.ensures ∙ c.in_ok-x.was) (sym c.read-2.ensures ∙ c.in_ok-y.was)
    (record { at = c.within.ensures }) (record { at = c.within-2.ensures }) c.in_ok-within.was c.in_ok-within-2.was)

pub returns-clause-x_small : goal.returns-clause-x_small
returns-clause-x_small g c =
    let fits : FitsSigned w64 c.in_ok-within.field-0 = search rules in
    simp (to_z-of_z w64 c.in_ok-within.field-0 fits)
    (one_small g.C.Code.meaning c.args.x.now c.in_ok-x.x c.args.most_x c.within.result (sym c.read.ensures ∙ c.in_ok-x.was) (record { at = c.within.ensures }) c.in_ok-within.field-0 c.in_ok-within.was)

pub returns-clause-y_small : goal.returns-clause-y_small
returns-clause-y_small g c =
    let fits : FitsSigned w64 c.in_ok-within-2.field-0 = search rules in
    simp (to_z-of_z w64 c.in_ok-within-2.field-0 fits)
    (one_small g.C.Code.meaning c.args.y.now c.in_ok-y.y c.args.most_y c.within-2.result (sym c.read-2.ensures ∙ c.in_ok-y.was) (record { at = c.within-2.ensures }) c.in_ok-within-2.field-0 c.in_ok-within-2.was)
