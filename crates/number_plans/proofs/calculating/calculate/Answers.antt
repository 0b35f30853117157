use Rattle.std.proofs.Common.{rules, ◌+ℤ◌, ◌-ℤ◌, ◌*ℤ◌, int_div, int_rem}
use Rattle.machine.specs.Arithmetic.{fifteen_digits}
use Rattle.number.specs.Results.{dividing}
use Rattle.number_plans.proofs.Attempts.{stopped, at_value, two_went_on, two_gave}
use Rattle.number_plans.proofs.calculating.calculate.Goals as goal

pub returns-in_err-x-in-Ad : goal.returns-in_err-x-in-Ad
returns-in_err-x-in-Ad g c = rw c.in-Ad.is (stopped _ (λ v w go. go (fifteen_digits (v.0 +ℤ v.1))) _ _ c.from_residual.ensures.1 c.in_err-x-in-Ad.ensures.comes_to)

pub returns-in_err-x-in-Su : goal.returns-in_err-x-in-Su
returns-in_err-x-in-Su g c = rw c.in-Su.is (stopped _ (λ v w go. go (fifteen_digits (v.0 -ℤ v.1))) _ _ c.from_residual-in_err-x-in-Su.ensures.1 c.in_err-x-in-Su.ensures.comes_to)

pub returns-in_err-x-in-Mu : goal.returns-in_err-x-in-Mu
returns-in_err-x-in-Mu g c = rw c.in-Mu.is (stopped _ (λ v w go. go (v.0 *ℤ v.1)) _ _ c.from_residual-in_err-x-in-Mu.ensures.1 c.in_err-x-in-Mu.ensures.comes_to)

pub returns-in_err-x-in-Dv : goal.returns-in_err-x-in-Dv
returns-in_err-x-in-Dv g c = rw c.in-Dv.is (stopped _ (λ v w go. dividing v.0 v.1 int_div w go) _ _ c.from_residual-in_err-x-in-Dv.ensures.1 c.in_err-x-in-Dv.ensures.comes_to)

pub returns-in_err-x-in-Dvr : goal.returns-in_err-x-in-Dvr
returns-in_err-x-in-Dvr g c = rw c.in-Dvr.is (stopped _ (λ v w go. dividing v.0 v.1 int_rem w go) _ _ c.from_residual-in_err-x-in-Dvr.ensures.1 c.in_err-x-in-Dvr.ensures.comes_to)

pub returns-in_ok-x-in-Ad : goal.returns-in_ok-x-in-Ad
returns-in_ok-x-in-Ad g c =
    rw c.in-Ad.is (two_gave _ (λ v w go. go (fifteen_digits (v.0 +ℤ v.1))) _ _ (search rules) (search rules) _ (search rules) c.in_ok-x-in-Ad.ensures.comes_to (at_value _ _ c.add.ensures))

pub returns-in_ok-x-in-Su : goal.returns-in_ok-x-in-Su
returns-in_ok-x-in-Su g c =
    rw c.in-Su.is (two_gave _ (λ v w go. go (fifteen_digits (v.0 -ℤ v.1))) _ _ (search rules) (search rules) _ (search rules) c.in_ok-x-in-Su.ensures.comes_to (at_value _ _ c.subtract.ensures))

pub returns-in_ok-x-in-Mu : goal.returns-in_ok-x-in-Mu
returns-in_ok-x-in-Mu g c =
    rw c.in-Mu.is (two_gave _ (λ v w go. go (v.0 *ℤ v.1)) _ _ (search rules) (search rules) _ (search rules) c.in_ok-x-in-Mu.ensures.comes_to (at_value _ _ c.multiply.ensures))

pub returns-in_ok-x-in-Dv : goal.returns-in_ok-x-in-Dv
returns-in_ok-x-in-Dv g c =
    rw c.in-Dv.is (two_went_on _ (λ v w go. dividing v.0 v.1 int_div w go) _ _ (search rules) (search rules) _ c.in_ok-x-in-Dv.ensures.comes_to c.divide.ensures)

pub returns-in_ok-x-in-Dvr : goal.returns-in_ok-x-in-Dvr
returns-in_ok-x-in-Dvr g c =
    rw c.in-Dvr.is (two_went_on _ (λ v w go. dividing v.0 v.1 int_rem w go) _ _ (search rules) (search rules) _ c.in_ok-x-in-Dvr.ensures.comes_to c.remainder.ensures)
