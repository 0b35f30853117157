use Rattle.std.proofs.Common.{rules, ◌∙◌, FitsSigned, w64}
use Rattle.std.proofs.lemmas.Int.{to_z-of_z}
use Rattle.std.specs.Prelude.{int_lt}
use Rattle.std.proofs.lemmas.Result.{err_from_is_err_and}
use Rattle.machine.specs.Comparisons.{equal}
use Rattle.choice_plans.proofs.Choices.{equal_bits, compared, no_numbers, numbers_compared}
use Rattle.choice_plans.proofs.comparing.plan_comparison.Goals as goal
use Rattle.choice_plans.proofs.comparing.plan_comparison.Goals.{in-Eq+in_ok-x-in-Eq, in-Gt+in_ok-x-in-Gt, in-Lt+in_ok-x-in-Lt, in-EqText, in-GtText, in-LtText}

pub returns-in_err-x-in-Eq : goal.returns-in_err-x-in-Eq
returns-in_err-x-in-Eq g c =
    let p = err_from_is_err_and c.from_residual.result c.from_residual.ensures.1 in
    rw (c.in-Eq.is, p.1, p.2) (no_numbers c.args.sources.now equal _ c.in_err-x-in-Eq.ensures)

pub returns-in_err-x-in-Gt : goal.returns-in_err-x-in-Gt
returns-in_err-x-in-Gt g c =
    let p = err_from_is_err_and c.from_residual-in_err-x-in-Gt.result c.from_residual-in_err-x-in-Gt.ensures.1 in
    rw (c.in-Gt.is, p.1, p.2) (no_numbers c.args.sources.now (λ x y. int_lt y x) _ c.in_err-x-in-Gt.ensures)

pub returns-in_err-x-in-Lt : goal.returns-in_err-x-in-Lt
returns-in_err-x-in-Lt g c =
    let p = err_from_is_err_and c.from_residual-in_err-x-in-Lt.result c.from_residual-in_err-x-in-Lt.ensures.1 in
    rw (c.in-Lt.is, p.1, p.2) (no_numbers c.args.sources.now int_lt _ c.in_err-x-in-Lt.ensures)

pub returns : goal.returns
returns g c = rw (c.of_value.ensures, c.chosen.ensures)
    (elim c.match-function.branch [
      | in-Eq+in_ok-x-in-Eq w ↦
          let fits_x : FitsSigned w64 w.in_ok-x-in-Eq.x = search rules in
          let fits_y : FitsSigned w64 w.in_ok-x-in-Eq.y = search rules in
          rw w.in-Eq.is (numbers_compared c.args.sources.now equal _ _ _ w.in_ok-x-in-Eq.ensures (w.so-is ∙ equal_bits w.in_ok-x-in-Eq.x w.in_ok-x-in-Eq.y fits_x fits_y))
      | in-Gt+in_ok-x-in-Gt w ↦
          let fits_x : FitsSigned w64 w.in_ok-x-in-Gt.x = search rules in
          let fits_y : FitsSigned w64 w.in_ok-x-in-Gt.y = search rules in
          rw w.in-Gt.is (numbers_compared c.args.sources.now (λ x y. int_lt y x) _ _ _ w.in_ok-x-in-Gt.ensures (w.so-is ∙ simp (to_z-of_z w64 w.in_ok-x-in-Gt.x fits_x, to_z-of_z w64 w.in_ok-x-in-Gt.y fits_y)))
      | in-Lt+in_ok-x-in-Lt w ↦
          let fits_x : FitsSigned w64 w.in_ok-x-in-Lt.x = search rules in
          let fits_y : FitsSigned w64 w.in_ok-x-in-Lt.y = search rules in
          rw w.in-Lt.is (numbers_compared c.args.sources.now int_lt _ _ _ w.in_ok-x-in-Lt.ensures (w.so-is ∙ simp (to_z-of_z w64 w.in_ok-x-in-Lt.x fits_x, to_z-of_z w64 w.in_ok-x-in-Lt.y fits_y)))
      | in-EqText w ↦ rw w.in-EqText.is (compared c.args.sources.now _ _ (w.so-is ∙ w.are_same-so.ensures))
      | in-GtText w ↦ rw w.in-GtText.is (compared c.args.sources.now _ _ (w.so-is ∙ w.is_lower_than-so.ensures))
      | in-LtText w ↦ rw w.in-LtText.is (compared c.args.sources.now _ _ (w.so-is ∙ w.is_lower_than-so-in-LtText.ensures))
    ])
