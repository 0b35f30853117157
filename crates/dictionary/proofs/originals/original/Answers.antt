use Rattle.std.proofs.Common.{sym, ◌∙◌}
use Rattle.dictionary.proofs.Flags.{place_is, original_is}
use Rattle.dictionary.proofs.originals.original.Goals as goal

pub returns : goal.returns
returns g c =
    let w = c.in_ok-function.was in
    let e = c.find_built_in.ensures in
    let t = c.then_some.ensures in
    original_is g.C.Code.meaning c.args.name.now c.args.originals.now c.in_ok-function.function c.place_of.result c.then_some.result (sym e ∙ w)
    (place_is c.in_ok-function.function c.place_of.result c.place_of.ensures.differ c.place_of.ensures.place) t
