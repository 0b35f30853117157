use Rattle.std.proofs.Common.{[], sym, refl, arith}
use Rattle.dictionary.specs.declared.rows.ClassRow.{ClassRow}
use Rattle.dictionary.specs.Meant.{rows_in, classes_in}
use Rattle.dictionary.specs.Meant.{stands}
use Rattle.dictionary.proofs.Meant.{other_lists}
use Rattle.dictionary.proofs.Firsts.{without_class_none}
use Rattle.dictionary.proofs.ClassRows.{class_there, class_row_there, class_removed}
use Rattle.dictionary.proofs.dictionary.Dictionary.erase_class.Goals as goal

abbrev no_row : ClassRow
no_row = record { name = 0; members = [] }

pub remove-self-requires-clause-part : goal.remove-self-requires-clause-part
remove-self-requires-clause-part c =
    let here = class_row_there c.args.self.now c.args.store.now c.args.name.now c.in-Some.place no_row c.requires c.in-Some.ensures in
    (omega arith, omega arith)

pub remove-requires : goal.remove-requires
remove-requires c = (class_there c.args.self.now c.args.store.now c.args.name.now c.in-Some.place c.requires c.in-Some.ensures).index

pub invariant_of-self : goal.invariant_of-self
invariant_of-self c =
    let d = c.args.self.now in
    let after = class_removed d c.args.store.now c.args.name.now c.in-Some.place no_row _ c.remove-self.result _ c.requires c.in-Some.ensures c.remove.ensures.items c.remove-self.ensures.text (omega (arith, c.remove-self.ensures.used)) in
    record {
      rows_reserved = d.rows_reserved;
      classes_reserved = omega (arith, c.remove.ensures.capacity);
      rows_bounded = d.rows_bounded;
      classes_bounded = omega (arith, c.remove.ensures.len);
      rows_filled = d.rows_filled;
      classes_filled = after.filled;
    }

pub returns-in-Some-clause-meaning : goal.returns-in-Some-clause-meaning
returns-in-Some-clause-meaning c =
    let d = c.args.self.now in
    let after = class_removed d c.args.store.now c.args.name.now c.in-Some.place no_row _ c.remove-self.result _ c.requires c.in-Some.ensures c.remove.ensures.items c.remove-self.ensures.text (omega (arith, c.remove-self.ensures.used)) in
    other_lists (stands d.originals) _ _ _ _ after.rows_are after.classes_are

pub returns-in_default-clause-meaning : goal.returns-in_default-clause-meaning
returns-in_default-clause-meaning c =
    let d = c.args.self.now in
    let none = c.in_default.ensures in
    other_lists (stands d.originals) (rows_in d c.args.store.now) _ _ _ refl (sym (without_class_none c.args.name.now (classes_in d c.args.store.now) none))
