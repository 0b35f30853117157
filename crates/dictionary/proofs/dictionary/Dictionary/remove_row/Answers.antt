use Rattle.std.proofs.Common.{vec_items, refl, ap, arith}
use Rattle.dictionary.specs.Decoding.{packed, class_size, class_in}
use Rattle.dictionary.proofs.Located.{spot}
use Rattle.dictionary.proofs.Changed.{row_cut_out}
use Rattle.dictionary.proofs.dictionary.Dictionary.remove_row.Goals as goal

pub size-size-requires : goal.size-size-requires
size-size-requires c = let here = spot c.args.self.now c.args.place c.requires.place in omega arith

pub overflow_add-start : goal.overflow_add-start
overflow_add-start c = let here = spot c.args.self.now c.args.place c.requires.place in omega arith

pub remove-self-requires-clause-part : goal.remove-self-requires-clause-part
remove-self-requires-clause-part c = let here = spot c.args.self.now c.args.place c.requires.place in (omega arith, omega arith)

pub overflow_sub-self : goal.overflow_sub-self
overflow_sub-self c = let here = spot c.args.self.now c.args.place c.requires.place in omega arith

pub remove-requires : goal.remove-requires
remove-requires c = let here = spot c.args.self.now c.args.place c.requires.place in omega arith

pub invariant_of-self : goal.invariant_of-self
invariant_of-self c =
    let d = c.args.self.now in
    let here = spot d c.args.place c.requires.place in
    record {
      rows_reserved = omega (arith, c.remove.ensures.capacity);
      classes_reserved = d.classes_reserved;
      rows_bounded = omega (arith, c.remove.ensures.len);
      classes_bounded = d.classes_bounded;
      rows_filled = (row_cut_out d c.args.store.now c.args.place c.size-size.result _ _ c.requires.whole c.requires.place c.size-size.ensures c.remove.ensures.items c.remove-self.ensures.text).filled;
      classes_filled = omega (arith, d.classes_filled, c.remove-self.ensures.used);
    }

pub returns-clause-rows : goal.returns-clause-rows
returns-clause-rows c =
    let d = c.args.self.now in
    (row_cut_out d c.args.store.now c.args.place c.size-size.result _ _ c.requires.whole c.requires.place c.size-size.ensures c.remove.ensures.items c.remove-self.ensures.text).rows_are

pub returns-clause-others : goal.returns-clause-others
returns-clause-others c =
    let d = c.args.self.now in
    let here = spot d c.args.place c.requires.place in
    record {
      originals = refl;
      classes = ap (packed class_size class_in (vec_items d.classes)) (row_cut_out d c.args.store.now c.args.place c.size-size.result _ _ c.requires.whole c.requires.place c.size-size.ensures c.remove.ensures.items c.remove-self.ensures.text).classes_are;
      kept = record { most_rows = refl; whole = omega (arith, c.remove-self.ensures.used, c.remove-self.ensures.len) };
    }
