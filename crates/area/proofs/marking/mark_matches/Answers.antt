use Rattle.std.proofs.Common.{◌≡◌, Bool, true, false, drop, sym, ap, ◌∙◌}
use Rattle.machine.specs.Texts.{begins}
use Rattle.std.proofs.lemmas.List.{take_rest}
use Rattle.area.proofs.Marks.{after_match, after_other}
use Rattle.area.proofs.marking.mark_matches.Goals as goal
use Rattle.area.proofs.marking.mark_matches.Goals.{then-begins, else-begins}

begun : (c : goal.Joined-begins) (r : Bool) → c.begins.result ≡ r → begins c.args.sought.now (drop c.loop-read.read c.loop-read.text) ≡ r
begun c r e = ap (begins c.args.sought.now) (sym (take_rest c.loop-read.text c.loop-read.read)) ∙ sym c.begins.ensures ∙ e

pub loop-read-preserved : goal.loop-read-preserved
loop-read-preserved c =
    elim c.if-begins.branch [
      | then-begins w ↦ rw (w.text-is, w.read-is, w.matches-is) (after_match c.loop-read.invariant c.loop-read-test.true (begun c true w.if-begins.true))
      | else-begins w ↦ rw (w.text-is, w.read-is, w.matches-is) (after_other c.loop-read.invariant c.loop-read-test.true (begun c false w.if-begins.false))
    ]
