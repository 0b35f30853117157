use Rattle.std.proofs.Common.{◌≡◌, ◌-◌, ◌∙◌, ap, min}
use Rattle.machine.specs.Texts.{not_empty}
use Rattle.scan.specs.Texts.{right_of}
use Rattle.scan.specs.Running.{PlainRun}
use Rattle.scan.proofs.Stepping.{passes_run, passes_nothing}
use Rattle.scan.proofs.running.pass_plain.Goals as goal
use Rattle.scan.proofs.running.pass_plain.Goals.{then-run-gt0+in_ok-put, else-run-gt0}

pub returns : goal.returns
returns g c =
    let code = g.C.Code.meaning in
    let t = c.args.texts.now in
    let q = c.args.roll.now in
    let m = c.args.meter.now in
    let run : PlainRun code (not_empty q.entries.items) (right_of t) c.plain_run-run.result = rw (← c.is_inside.ensures, ← c.right.ensures) c.plain_run-run.ensures in
    let far : c.min-run.result ≡ min c.plain_run-run.result (m.bounds.steps - c.args.steps) = c.min-run.ensures ∙ ap (min c.plain_run-run.result) c.saturating_sub.ensures in
    elim c.if-run-gt0.branch [
      | then-run-gt0+in_ok-put w ↦ rw (w.texts-is, w.meter-is) (passes_run code t w.move_front.new.self q m w.put.new.self c.args.steps _ _ run far w.if-run-gt0.true w.move_front.ensures w.in_ok-put.ensures)
      | else-run-gt0 w ↦ rw (w.texts-is, w.meter-is) (passes_nothing code t q m c.args.steps _ _ run far w.if-run-gt0.false)
    ]
