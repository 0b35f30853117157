use Rattle.std.proofs.Common.{arith}
use Rattle.performing.proofs.Numbers.{highest_known}
use Rattle.performing.proofs.segmenting.next_number.Goals as goal

pub overflow_add-result : goal.overflow_add-result
overflow_add-result g c = omega (arith, c.highest_mark.ensures, highest_known g.C.Code.meaning g.C.Code.laws c.args.body.now (λ k. (c.type_inv.body k).fits))

pub returns-clause-most : goal.returns-clause-most
returns-clause-most g c = omega (arith, c.highest_mark.ensures, highest_known g.C.Code.meaning g.C.Code.laws c.args.body.now (λ k. (c.type_inv.body k).fits))
