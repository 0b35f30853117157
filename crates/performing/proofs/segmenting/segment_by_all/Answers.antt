use Rattle.std.proofs.Common.{suc, sym, ap, ◌∙◌, arith}
use Rattle.machine.specs.Texts.{highest_mark}
use Rattle.performing.proofs.Numbers.{mark_there, mark_absent}
use Rattle.performing.proofs.Segments.{none_marked, none_left}
use Rattle.performing.proofs.Marking.{begins, marks_one, ends}
use Rattle.performing.proofs.segmenting.segment_by_all.Goals as goal

pub loop-n-init : goal.loop-n-init
loop-n-init g c =
    begins g.C.Code.meaning c.args.parameters.now c.args.dictionary.now c.args.store.now c.args.string c.next_number-number.result c.requires.whole c.requires.place
    (c.next_number-number.ensures.number ∙ ap (λ body. suc (highest_mark g.C.Code.meaning body)) c.body.ensures)

pub loop-n-preserved : goal.loop-n-preserved
loop-n-preserved g c =
    let l = c.loop-n in
    marks_one g.C.Code.meaning c.args.parameters.now c.args.dictionary.now l.dictionary c.mark.new.self c.args.store.now l.store c.mark.new.store c.args.string l.place c.mark.new.string l.n l.number c.in-Some.mark
    c.requires.whole c.requires.place l.invariant l.auto.n (omega (arith, c.min-n-end.ensures)) (omega (arith, c.min-n-end.ensures, c.len.ensures))
    (mark_there g.C.Code.meaning l.number c.in-Some.mark c.in-Some.ensures)
    (rw (← c.get.ensures) (record { kept = c.mark.ensures.kept; at = c.mark.ensures.place; named = c.mark.ensures.named; string = c.mark.ensures.string; meaning = c.mark.ensures.meaning }))

pub returns-in_default-clause-meaning : goal.returns-in_default-clause-meaning
returns-in_default-clause-meaning g c name first =
    let l = c.loop-n in
    ends g.C.Code.meaning c.args.parameters.now c.args.dictionary.now l.dictionary c.args.store.now l.store c.args.string l.place l.n l.number name l.invariant
    (none_marked g.C.Code.meaning l.number _ _ (mark_absent g.C.Code.meaning l.number l.invariant.least (sym c.in_default.is ∙ c.segment_mark.ensures))) first

pub returns-clause-meaning : goal.returns-clause-meaning
returns-clause-meaning g c name first =
    let l = c.loop-n in
    ends g.C.Code.meaning c.args.parameters.now c.args.dictionary.now l.dictionary c.args.store.now l.store c.args.string l.place l.n l.number name l.invariant
    (none_left g.C.Code.meaning l.number c.args.parameters.now l.n _ (omega (arith, c.min-n-end.ensures, c.len.ensures))) first
