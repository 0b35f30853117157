use Rattle.std.proofs.Common.{true, false, map, ap, ◌∙◌, arith}
use Rattle.std.proofs.lemmas.List.{length-map}
use Rattle.library.specs.Operations.{operation}
use Rattle.library.specs.Laws.{whole_space}
use Rattle.library.proofs.Running.{underway_more, underway_all, counted, space_is_kept}
use Rattle.library.proofs.request.carry_out_all.Goals as goal
use Rattle.library.proofs.request.carry_out_all.Goals.{then-is_err, else-is_err}

pub loop-request-preserved : goal.loop-request-preserved
loop-request-preserved g c =
    underway_more (operation g.S.Source.strings) c.args.requests.now _ _ _ _ _ _ c.request-item.result c.loop-request-test.true c.request-item.is c.carry_out.ensures.after
    (elim c.if-is_err.branch [
      | then-is_err w ↦ counted c.carry_out.result _ _ true _ _ c.carry_out.ensures.refusal c.is_err.ensures.value w.if-is_err.true w.refused-is
      | else-is_err w ↦ counted c.carry_out.result _ _ false _ _ c.carry_out.ensures.refusal c.is_err.ensures.value w.if-is_err.false (w.refused-is ∙ omega arith)
    ])
    c.loop-request.invariant

pub returns : goal.returns
returns g c =
    let start = g.K.Reader.meaning c.args.library.now in
    let all = map (operation g.S.Source.strings) c.args.requests.now in
    let ended = underway_all start _ all _ _ (simp length-map c.loop-request-test.false) c.loop-request.invariant in
    record { refused = ended.0; after = ended.1; space = ap whole_space ended.1 ∙ space_is_kept start all; law = space_is_kept }
