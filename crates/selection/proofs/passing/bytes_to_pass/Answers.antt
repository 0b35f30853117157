use Rattle.std.proofs.Common.{◌≡◌, ◌<◌, Bool, true, false, sym, ◌∙◌, arith}
use Rattle.selection.proofs.Passed.{passed_all, passed_more}
use Rattle.selection.proofs.passing.bytes_to_pass.Goals as goal
use Rattle.selection.proofs.passing.bytes_to_pass.Goals.{then-not-is_mark, else-not-is_mark}

pub loop-place-preserved : goal.loop-place-preserved
loop-place-preserved g c =
    let some : 0 < c.loop-place.left = omega arith in
    let more = λ (r : Bool) (e : c.is_mark.result ≡ r).
    passed_more g.C.Code.meaning c.loop-place.left c.args.text.now c.loop-place.place r c.loop-place-test.true some (sym c.is_mark.ensures ∙ e) in
    elim c.if-not-is_mark.branch [
      | then-not-is_mark w ↦ rw w.left-is (omega (arith, c.loop-place.invariant, more false w.if-not-is_mark.true))
      | else-not-is_mark w ↦ rw w.left-is (omega (arith, c.loop-place.invariant, more true w.if-not-is_mark.false))
    ]

pub returns-clause-bytes : goal.returns-clause-bytes
returns-clause-bytes g c =
    omega (arith, c.loop-place.invariant, passed_all g.C.Code.meaning c.loop-place.left c.args.text.now c.loop-place.place c.loop-place-test.false)
