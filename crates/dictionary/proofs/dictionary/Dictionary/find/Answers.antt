use Rattle.std.proofs.Common.{sym, ◌∙◌, arith}
use Rattle.dictionary.proofs.Located.{come, read, found, passed, none_named}
use Rattle.dictionary.proofs.dictionary.Dictionary.find.Goals as goal

pub returns-then-eq : goal.returns-then-eq
returns-then-eq c =
    let d = c.args.self.now in
    let now = c.loop-index in
    let here = come d c.args.store.now c.args.name.now now.index now.start c.row-item.result _ c.deref-row-items.ensures.value c.loop-index-test.true c.row-item.is now.invariant.start now.invariant.none c.requires in
    found d c.args.store.now c.args.name.now now.index now.start c.row-item.result here (sym c.eq.ensures ∙ c.if-eq.true)

pub loop-index-preserved : goal.loop-index-preserved
loop-index-preserved c =
    let d = c.args.self.now in
    let now = c.loop-index in
    let here = come d c.args.store.now c.args.name.now now.index now.start c.row-item.result _ c.deref-row-items.ensures.value c.loop-index-test.true c.row-item.is now.invariant.start now.invariant.none c.requires in
    let there = read d c.args.store.now now.index c.row-item.result here.at c.requires in
    record {
      start = omega (arith, there.next, c.size-start.ensures);
      none = passed d c.args.store.now c.args.name.now now.index now.start c.row-item.result here (sym c.eq.ensures ∙ c.if-eq.false);
    }

pub returns : goal.returns
returns c =
    none_named c.args.self.now c.args.store.now c.args.name.now c.loop-index.index (omega (arith, c.deref-row-items.ensures.len, c.args.self.now.rows.ok.0)) c.loop-index.invariant.none
