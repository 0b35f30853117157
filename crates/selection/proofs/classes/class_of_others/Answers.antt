use Rattle.std.proofs.Common.{refl, sym, ◌∙◌}
use Rattle.selection.proofs.Bytes.{others_none, others_more, others_all}
use Rattle.selection.proofs.classes.class_of_others.Goals as goal
use Rattle.selection.proofs.classes.class_of_others.Goals.{then-is_ranked, else-is_ranked}

pub loop-byte-init : goal.loop-byte-init
loop-byte-init g c = others_none g.C.Code.meaning c.class_of_bytes-members.ensures

pub loop-byte-preserved : goal.loop-byte-preserved
loop-byte-preserved g c =
    others_more c.loop-byte.invariant c.loop-byte-test.true _
    (elim c.if-is_ranked.branch [
      | then-is_ranked w ↦ rw (w.member-is, sym c.is_ranked.ensures ∙ w.if-is_ranked.true) refl
      | else-is_ranked w ↦ rw (w.member-is, sym c.is_ranked.ensures ∙ w.if-is_ranked.false) w.if-is_ranked.false
    ])

pub returns : goal.returns
returns g c = others_all c.loop-byte.invariant c.loop-byte-test.false
