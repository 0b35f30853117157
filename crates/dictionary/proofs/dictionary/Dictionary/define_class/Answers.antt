use Rattle.std.proofs.Common.{ap}
use Rattle.dictionary.specs.declared.rows.ClassRow.{ClassRow}
use Rattle.dictionary.specs.Meant.{stands}
use Rattle.dictionary.proofs.Meant.{other_lists}
use Rattle.dictionary.proofs.ClassRows.{class_there, class_changed, room_for_class}
use Rattle.dictionary.proofs.dictionary.Dictionary.define_class.Goals as goal

pub index_mut-requires : goal.index_mut-requires
index_mut-requires c = (class_there c.args.self.now c.args.store.now c.args.name.now c.in-Some.place c.requires.whole c.in-Some.ensures).index

pub add_class-requires-clause-few : goal.add_class-requires-clause-few
add_class-requires-clause-few c = (room_for_class c.args.self.now c.args.store.now c.args.name.now c.args.members.now c.requires.whole c.in-None.ensures c.requires.few c.requires.fits).few

pub add_class-requires-clause-fits : goal.add_class-requires-clause-fits
add_class-requires-clause-fits c = (room_for_class c.args.self.now c.args.store.now c.args.name.now c.args.members.now c.requires.whole c.in-None.ensures c.requires.few c.requires.fits).fits

pub returns-in-Some-clause-meaning : goal.returns-in-Some-clause-meaning
returns-in-Some-clause-meaning c =
    let d = c.args.self.now in
    let after = class_changed d c.args.store.now c.args.name.now c.in-Some.place c.index_mut.result.now _ c.requires.whole c.in-Some.ensures (ap (λ (r : ClassRow). r.name) c.index_mut.ensures.value) in
    other_lists (stands d.originals) _ _ _ _ after.rows_are after.classes_are
