use Rattle.std.proofs.Common.{length, arith}
use Rattle.std.proofs.lemmas.Result.{err_from_is_err_and}
use Rattle.meter.specs.declared.question.Question.TheVariants.{Value}
use Rattle.scan.specs.Standing.{state_in}
use Rattle.delivery.specs.Deliveries.{value_in}
use Rattle.delivery.proofs.Needs.{exact_length, passed_exactly, short_at_least}
use Rattle.delivery.proofs.delivery.Delivery.write_value.Goals as goal

pub returns-in_err-put-clause-asks : goal.returns-in_err-put-clause-asks
returns-in_err-put-clause-asks g c w =
    let p = err_from_is_err_and c.from_residual.result c.from_residual.ensures.1 in
    rw (p.1, p.2) (short_at_least Value _ _ _ _ _ _ (length (value_in g.C.Code.meaning c.args.environment.now c.args.value (state_in c.args.texts.now c.args.roll.now w))) _ _ c.left.ensures c.right.ensures c.value_length-n.ensures c.saturating_add.ensures _ c.in_err-put.ensures)

pub write_in_place-requires-clause-long : goal.write_in_place-requires-clause-long
write_in_place-requires-clause-long g c =
    exact_length _ _ _ _ _ c.value_length-n.ensures c.saturating_add.ensures c.in_ok-put.ensures.fits (omega arith)

pub returns-clause-asks : goal.returns-clause-asks
returns-clause-asks g c w =
    passed_exactly Value _ _ _ _ _ _ _ _ _ c.left.ensures c.right.ensures c.value_length-n.ensures c.saturating_add.ensures (omega arith) c.in_ok-put.ensures
