use Rattle.std.proofs.Common.{◌^◌, ◌*ℤ◌, FitsSigned, w64, arith, lit<}
use Rattle.std.proofs.lemmas.Int.{to_z-of_z, fits_signed_mul}
use Rattle.number.proofs.arithmetic.multiply.Goals as goal

pub returns : goal.returns
returns c =
    let fits : FitsSigned w64 (c.args.x *ℤ c.args.y) = fits_signed_mul w64 c.args.x c.args.y (10 ^ 9) (10 ^ 9) (omega arith) (omega arith) (lit< tt) in
    let x_is = to_z-of_z w64 c.args.x c.ranges.x in
    let y_is = to_z-of_z w64 c.args.y c.ranges.y in
    simp (x_is, y_is) (to_z-of_z w64 (c.args.x *ℤ c.args.y) fits)
