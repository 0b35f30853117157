use Rattle.std.proofs.Common.{sym, ◌∙◌}
use Rattle.number.proofs.Digits.{read_digits-kept}
use Rattle.number.proofs.reading.read_behind.Goals as goal

pub apply-requires : goal.apply-requires
apply-requires g c =
    (read_digits-kept g.C.Code.meaning c.args.digits.now c.in_ok-magnitude.magnitude (sym c.read_digits.ensures ∙ c.in_ok-magnitude.was) c.if-digits-le-MOST_DIGITS.true).1
