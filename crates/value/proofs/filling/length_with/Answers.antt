use Rattle.std.proofs.Common.{ap, arith}
use Rattle.machine.specs.Functions.{filled}
use Rattle.std.proofs.lemmas.List.{drop_all}
use Rattle.value.proofs.Caps.{counted_all}
use Rattle.value.proofs.filling.length_with.Goals as goal

pub returns : goal.returns
returns g c =
    counted_all c.loop-byte.invariant
    (ap (filled g.C.Code.meaning c.args.parameters.now c.args.created.now) (drop_all c.loop-byte.byte-index c.args.text.now (omega (arith, c.loop-byte-test.false))))
