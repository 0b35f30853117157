use Rattle.std.proofs.Common.{[], get_or, refl, sym, ◌∙◌, arith}
use Rattle.dictionary.specs.declared.rows.ClassRow.{ClassRow}
use Rattle.dictionary.proofs.ClassRows.{class_come, class_read, class_found, class_passed, no_class_named}
use Rattle.dictionary.proofs.dictionary.Dictionary.find_class.Goals as goal

abbrev no_row : ClassRow
no_row = record { name = 0; members = [] }

pub returns-then-eq : goal.returns-then-eq
returns-then-eq c =
    let d = c.args.self.now in
    let now = c.loop-index in
    let row = get_or c.deref-class-items.result.now now.index no_row in
    let here = class_come d c.args.store.now c.args.name.now now.index now.start row no_row _ c.deref-class-items.ensures.value c.loop-index-test.true refl now.invariant.start now.invariant.none c.requires in
    class_found d c.args.store.now c.args.name.now now.index now.start row here (sym c.eq.ensures ∙ c.if-eq.true)

pub loop-index-preserved : goal.loop-index-preserved
loop-index-preserved c =
    let d = c.args.self.now in
    let now = c.loop-index in
    let row = get_or c.deref-class-items.result.now now.index no_row in
    let here = class_come d c.args.store.now c.args.name.now now.index now.start row no_row _ c.deref-class-items.ensures.value c.loop-index-test.true refl now.invariant.start now.invariant.none c.requires in
    let there = class_read d c.args.store.now now.index row here.at c.requires in
    record {
      start = omega (arith, there.next);
      none = class_passed d c.args.store.now c.args.name.now now.index now.start row here (sym c.eq.ensures ∙ c.if-eq.false);
    }

pub returns : goal.returns
returns c =
    no_class_named c.args.self.now c.args.store.now c.args.name.now c.loop-index.index (omega (arith, c.deref-class-items.ensures.len, c.args.self.now.classes.ok.0)) c.loop-index.invariant.none
