use Rattle.std.proofs.Common.{vec_items, refl, ap, arith}
use Rattle.dictionary.specs.Decoding.{packed, class_size, class_in}
use Rattle.dictionary.proofs.Located.{spot}
use Rattle.dictionary.proofs.Rooms.{body_copied}
use Rattle.dictionary.proofs.dictionary.Dictionary.edit_within.Goals as goal

pub overflow_add-start : goal.overflow_add-start
overflow_add-start c = let here = spot c.args.self.now c.args.place c.requires.place in omega arith

pub size-requires : goal.size-requires
size-requires c = let here = spot c.args.self.now c.args.place c.requires.place in omega arith

pub overflow_add-end : goal.overflow_add-end
overflow_add-end c = let here = spot c.args.self.now c.args.place c.requires.place in omega (arith, c.size.ensures)

pub overflow_sub-self-2 : goal.overflow_sub-self-2
overflow_sub-self-2 c = let here = spot c.args.self.now c.args.place c.requires.place in omega (arith, c.size.ensures)

pub splice_within-self-requires-clause-part : goal.splice_within-self-requires-clause-part
splice_within-self-requires-clause-part c =
    let here = spot c.args.self.now c.args.place c.requires.place in
    (omega (arith, c.size.ensures), omega (arith, c.size.ensures))

pub index_mut-requires : goal.index_mut-requires
index_mut-requires c = let here = spot c.args.self.now c.args.place c.requires.place in omega arith

pub invariant_of-self : goal.invariant_of-self
invariant_of-self c =
    let d = c.args.self.now in
    let here = spot d c.args.place c.requires.place in
    record {
      rows_reserved = d.rows_reserved;
      classes_reserved = d.classes_reserved;
      rows_bounded = d.rows_bounded;
      classes_bounded = d.classes_bounded;
      rows_filled = (body_copied d c.args.store.now c.args.place c.args.meaning c.args.piece.start c.args.piece.end c.size.result _ c.requires.whole c.requires.place c.requires.piece c.requires.size c.size.ensures c.splice_within-self.ensures.text).filled;
      classes_filled = omega (arith, d.classes_filled, c.splice_within-self.ensures.used, c.size.ensures);
    }

pub returns-clause-row : goal.returns-clause-row
returns-clause-row c =
    let d = c.args.self.now in
    (body_copied d c.args.store.now c.args.place c.args.meaning c.args.piece.start c.args.piece.end c.size.result _ c.requires.whole c.requires.place c.requires.piece c.requires.size c.size.ensures c.splice_within-self.ensures.text).rows_are

pub returns-clause-others : goal.returns-clause-others
returns-clause-others c =
    let d = c.args.self.now in
    let here = spot d c.args.place c.requires.place in
    record {
      originals = refl;
      classes = ap (packed class_size class_in (vec_items d.classes)) (body_copied d c.args.store.now c.args.place c.args.meaning c.args.piece.start c.args.piece.end c.size.result _ c.requires.whole c.requires.place c.requires.piece c.requires.size c.size.ensures c.splice_within-self.ensures.text).classes_are;
      kept = record { most_rows = refl; whole = omega (arith, c.splice_within-self.ensures.used, c.splice_within-self.ensures.len, c.size.ensures) };
    }
