use Rattle.std.proofs.Common.{◌≡◌, ◌∙◌, true, false, ap, sym}
use Rattle.std.proofs.lemmas.Result.{err_from_is_err_and}
use Rattle.machine.specs.Texts.{not_empty}
use Rattle.scan.specs.Texts.{right_of}
use Rattle.expansion.proofs.Steps.{none_left, some_left, at_end, at_short, at_stop, at_next, behind_plain}
use Rattle.expansion.proofs.Memory.{same_memory_on}
use Rattle.expansion.proofs.scanning.scan_text.Goals as goal

pub returns-then-is_empty-clause-goes : goal.returns-then-is_empty-clause-goes
returns-then-is_empty-clause-goes g c =
    let here = behind_plain g.C.Code.meaning _ _ _ _ _ _ _ _ _ c.loop-steps.invariant.0 c.requires.allowed _ _ _ c.in_ok-steps.ensures in
    let none : not_empty (right_of c.pass_plain.new.texts) ≡ false = ap not_empty (sym c.right.ensures) ∙ none_left c.right.result.now c.is_empty.result c.is_empty.ensures c.if-is_empty.true in
    at_end g.C.Code.meaning _ _ _ _ _ _ _ _ _ here c.end_of_text.result none (c.end_of_text.ensures c.pass_plain.new.texts c.pass_plain.new.meter)

pub returns-in_err-put-clause-goes : goal.returns-in_err-put-clause-goes
returns-in_err-put-clause-goes g c =
    let here = behind_plain g.C.Code.meaning _ _ _ _ _ _ _ _ _ c.loop-steps.invariant.0 c.requires.allowed _ _ _ c.in_ok-steps.ensures in
    let some : not_empty (right_of c.pass_plain.new.texts) ≡ true = ap not_empty (sym c.right.ensures) ∙ some_left c.right.result.now c.is_empty.result c.is_empty.ensures c.if-is_empty.false in
    let p = err_from_is_err_and c.from_residual-in_err-put.result c.from_residual-in_err-put.ensures.1 in
    rw (p.1, p.2) (at_short g.C.Code.meaning _ _ _ _ _ _ _ _ _ here c.put.new.self _ some c.in_err-put.ensures)

pub returns-in_err-step-clause-goes : goal.returns-in_err-step-clause-goes
returns-in_err-step-clause-goes g c =
    let here = behind_plain g.C.Code.meaning _ _ _ _ _ _ _ _ _ c.loop-steps.invariant.0 c.requires.allowed _ _ _ c.in_ok-steps.ensures in
    let some : not_empty (right_of c.pass_plain.new.texts) ≡ true = ap not_empty (sym c.right.ensures) ∙ some_left c.right.result.now c.is_empty.result c.is_empty.ensures c.if-is_empty.false in
    let p = err_from_is_err_and c.from_residual-in_err-step.result c.from_residual-in_err-step.ensures.1 in
    rw (p.1, p.2) (at_stop g.C.Code.meaning _ _ _ _ _ _ _ _ _ here c.requires.allowed some c.put.new.self c.in_ok-put.ensures _ _ _ _ _ (rw (← c.in_err-step.was) c.step.ensures.goes))

pub loop-steps-preserved : goal.loop-steps-preserved
loop-steps-preserved g c =
    let here = behind_plain g.C.Code.meaning _ _ _ _ _ _ _ _ _ c.loop-steps.invariant.0 c.requires.allowed _ _ _ c.in_ok-steps.ensures in
    let some : not_empty (right_of c.pass_plain.new.texts) ≡ true = ap not_empty (sym c.right.ensures) ∙ some_left c.right.result.now c.is_empty.result c.is_empty.ensures c.if-is_empty.false in
    let asked = c.in_ok-put.ensures in
    let bounds = asked.bounds_stay ∙ here.bounds_stay in (
      at_next g.C.Code.meaning _ _ _ _ _ _ _ _ _ here c.requires.allowed some c.put.new.self asked _ _ _ _ _ (rw (← c.in_ok-step.was) c.step.ensures.goes),
      same_memory_on g.K.Reader _ _ _ c.loop-steps.invariant.1 c.step.ensures.memory,
    )
