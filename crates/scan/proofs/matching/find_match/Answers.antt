use Rattle.std.proofs.Common.{◌∙◌, sym, get_or, false, true, arith}
use Rattle.scan.proofs.Turns.{stepped, turn_protected, turn_escape, turn_open, turn_close, turn_other}
use Rattle.scan.proofs.matching.find_match.Goals as goal
use Rattle.scan.proofs.matching.find_match.Goals.{then-protected, else-protected+then-byte-signs, else-protected+else-byte-signs+then-byte-signs-2, else-protected+else-byte-signs+else-byte-signs-2+then-byte-signs-3+else-depth-eq0, else-protected+else-byte-signs+else-byte-signs-2+else-byte-signs-3}

pub loop-at-preserved : goal.loop-at-preserved
loop-at-preserved g c =
    let code = g.C.Code.meaning in
    let s = c.args.signs.now in
    let l = c.loop-at in
    let here = l.invariant.same in
    let within = c.loop-at-test.true in
    elim c.if-protected.branch [
      | then-protected w ↦ record {
        same = stepped code _ l.at _ true _ _ l.depth _ _ within here w.if-protected.true (turn_protected code l.at (get_or c.args.text.now l.at 0) l.depth _) w.protected-is w.depth-is;
        bounded = omega arith;
      }
      | else-protected+then-byte-signs w ↦ record {
        same = stepped code _ l.at _ false _ _ l.depth _ _ within here w.if-protected.false (turn_escape code l.at _ l.depth _ (w.if-byte-signs.true ∙ s.at_is)) w.protected-is w.depth-is;
        bounded = omega arith;
      }
      | else-protected+else-byte-signs+then-byte-signs-2 w ↦ record {
        same =
            stepped code _ l.at _ false _ _ l.depth _ _ within here w.if-protected.false
            (turn_open code l.at _ l.depth _ (λ e. w.if-byte-signs.false (e ∙ sym s.at_is)) (w.if-byte-signs-2.true ∙ s.less_is)) (w.protected-is ∙ w.if-protected.false) w.depth-is;
        bounded = omega arith;
      }
      | else-protected+else-byte-signs+else-byte-signs-2+then-byte-signs-3+else-depth-eq0 w ↦ record {
        same =
            stepped code _ l.at _ false _ _ l.depth _ _ within here w.if-protected.false
            (turn_close code l.at _ l.depth _ (λ e. w.if-byte-signs.false (e ∙ sym s.at_is)) (λ e. w.if-byte-signs-2.false (e ∙ sym s.less_is)) (w.if-byte-signs-3.true ∙ s.greater_is) w.if-depth-eq0.false)
            (w.protected-is ∙ w.if-protected.false) w.depth-is;
        bounded = omega arith;
      }
      | else-protected+else-byte-signs+else-byte-signs-2+else-byte-signs-3 w ↦ record {
        same =
            stepped code _ l.at _ false _ _ l.depth _ _ within here w.if-protected.false
            (turn_other code l.at _ l.depth _ (λ e. w.if-byte-signs.false (e ∙ sym s.at_is)) (λ e. w.if-byte-signs-2.false (e ∙ sym s.less_is)) (λ e. w.if-byte-signs-3.false (e ∙ sym s.greater_is)))
            (w.protected-is ∙ w.if-protected.false) w.depth-is;
        bounded = omega arith;
      }
    ]
