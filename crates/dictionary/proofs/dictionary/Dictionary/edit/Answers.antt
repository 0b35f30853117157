use Rattle.std.proofs.Common.{vec_items, refl, ap, arith}
use Rattle.dictionary.specs.Decoding.{packed, class_size, class_in}
use Rattle.dictionary.proofs.Located.{spot}
use Rattle.dictionary.proofs.Changed.{body_edited, changed_stands}
use Rattle.dictionary.proofs.dictionary.Dictionary.edit.Goals as goal

pub overflow_add-body : goal.overflow_add-body
overflow_add-body c = let here = spot c.args.self.now c.args.place c.requires.place in omega arith

pub overflow_add-start : goal.overflow_add-start
overflow_add-start c = let here = spot c.args.self.now c.args.place c.requires.place in omega arith

pub overflow_add-end : goal.overflow_add-end
overflow_add-end c = let here = spot c.args.self.now c.args.place c.requires.place in omega arith

pub overflow_sub-self-2 : goal.overflow_sub-self-2
overflow_sub-self-2 c = let here = spot c.args.self.now c.args.place c.requires.place in omega arith

pub splice-self-requires-clause-part : goal.splice-self-requires-clause-part
splice-self-requires-clause-part c = let here = spot c.args.self.now c.args.place c.requires.place in (omega arith, omega arith)

pub index_mut-requires : goal.index_mut-requires
index_mut-requires c = let here = spot c.args.self.now c.args.place c.requires.place in omega arith

pub invariant_of-self : goal.invariant_of-self
invariant_of-self c =
    let d = c.args.self.now in
    let here = spot d c.args.place c.requires.place in
    record {
      rows_reserved = d.rows_reserved;
      classes_reserved = d.classes_reserved;
      rows_bounded = d.rows_bounded;
      classes_bounded = d.classes_bounded;
      rows_filled = (body_edited d c.args.store.now c.args.place c.args.meaning c.args.part.start c.args.part.end _ c.args.piece.now c.requires.whole c.requires.place c.requires.part c.requires.size c.splice-self.ensures.text).filled;
      classes_filled = omega (arith, d.classes_filled, c.splice-self.ensures.used);
    }

pub returns-clause-row : goal.returns-clause-row
returns-clause-row c =
    let d = c.args.self.now in
    (body_edited d c.args.store.now c.args.place c.args.meaning c.args.part.start c.args.part.end _ c.args.piece.now c.requires.whole c.requires.place c.requires.part c.requires.size c.splice-self.ensures.text).rows_are

pub returns-clause-others : goal.returns-clause-others
returns-clause-others c =
    let d = c.args.self.now in
    let here = spot d c.args.place c.requires.place in
    record {
      originals = refl;
      classes = ap (packed class_size class_in (vec_items d.classes)) (body_edited d c.args.store.now c.args.place c.args.meaning c.args.part.start c.args.part.end _ c.args.piece.now c.requires.whole c.requires.place c.requires.part c.requires.size c.splice-self.ensures.text).classes_are;
      kept = record { most_rows = refl; whole = omega (arith, c.splice-self.ensures.used, c.splice-self.ensures.len) };
    }

pub returns-clause-place : goal.returns-clause-place
returns-clause-place c = changed_stands c.args.self.now _ c.args.place c.args.meaning c.requires.place refl
