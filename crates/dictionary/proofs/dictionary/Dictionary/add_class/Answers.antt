use Rattle.std.proofs.Common.{refl, arith}
use Rattle.dictionary.specs.Meant.{stands}
use Rattle.dictionary.proofs.Meant.{other_lists}
use Rattle.dictionary.proofs.ClassRows.{class_added}
use Rattle.dictionary.proofs.dictionary.Dictionary.add_class.Goals as goal

pub returns-clause-meaning : goal.returns-clause-meaning
returns-clause-meaning c =
    let d = c.args.self.now in
    let after = class_added d c.args.store.now c.args.name.now _ _ c.splice-self.result _ c.requires.whole c.requires.absent refl c.push_reserved.ensures.items c.splice-self.ensures.text (omega (arith, c.splice-self.ensures.used)) in
    other_lists (stands d.originals) _ _ _ _ after.rows_are after.classes_are
