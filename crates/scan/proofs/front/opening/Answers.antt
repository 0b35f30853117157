use Rattle.scan.proofs.Fronts.{behind_sharp}
use Rattle.scan.proofs.front.opening.Goals as goal

pub returns-then-starts_with-clause-value : goal.returns-then-starts_with-clause-value
returns-then-starts_with-clause-value g c inside =
    let s = c.args.signs.now in
    rw (behind_sharp g.C.Code.meaning g.C.Code.laws inside c.args.rest.now s.sharp s.less s.sharp_is s.less_is, ← c.starts_with.ensures.value, c.if-starts_with.true)

pub returns-then-starts_with-2-clause-value : goal.returns-then-starts_with-2-clause-value
returns-then-starts_with-2-clause-value g c inside =
    let s = c.args.signs.now in
    rw (behind_sharp g.C.Code.meaning g.C.Code.laws inside c.args.rest.now s.sharp s.less s.sharp_is s.less_is, ← c.starts_with.ensures.value, c.if-starts_with.false, ← c.starts_with-else-starts_with.ensures.value, c.if-starts_with-2.true)

pub returns-else-starts_with-2-clause-value : goal.returns-else-starts_with-2-clause-value
returns-else-starts_with-2-clause-value g c inside =
    let s = c.args.signs.now in
    rw (behind_sharp g.C.Code.meaning g.C.Code.laws inside c.args.rest.now s.sharp s.less s.sharp_is s.less_is, ← c.starts_with.ensures.value, c.if-starts_with.false, ← c.starts_with-else-starts_with.ensures.value, c.if-starts_with-2.false)
