use Rattle.std.proofs.Common.{◌+◌, length, vec_items, refl, ap, ◌∙◌, arith}
use Rattle.dictionary.specs.Decoding.{packed, class_size, class_in}
use Rattle.dictionary.proofs.Changed.{empty_added, first_added, row_last, start_last, earlier_stands, front_kept}
use Rattle.dictionary.proofs.dictionary.Dictionary.add.Goals as goal

pub returns-clause-rows : goal.returns-clause-rows
returns-clause-rows c =
    let d = c.args.self.now in
    let after = empty_added d c.args.store.now _ c.args.name.now _ (d.row_bytes + length c.args.name.now) _ c.requires.whole c.requires.absent (omega arith) refl c.push_reserved.ensures.items c.splice-self.ensures.text refl in
    after.rows_are

pub returns-clause-place : goal.returns-clause-place
returns-clause-place c =
    let d = c.args.self.now in
    let after = empty_added d c.args.store.now _ c.args.name.now _ (d.row_bytes + length c.args.name.now) _ c.requires.whole c.requires.absent (omega arith) refl c.push_reserved.ensures.items c.splice-self.ensures.text refl in
    let count = c.len.ensures ∙ d.rows.ok.0 in
    record {
      first = first_added d c.args.store.now c.args.name.now _ c.len.result _ c.requires.absent after.rows_are count;
      at = record {
        row = row_last (vec_items d.rows) _ _ c.len.result c.push_reserved.ensures.items count;
        start = start_last d _ _ c.len.result c.push_reserved.ensures.items count;
      };
    }

pub returns-clause-others : goal.returns-clause-others
returns-clause-others c =
    let d = c.args.self.now in
    let after = empty_added d c.args.store.now _ c.args.name.now _ (d.row_bytes + length c.args.name.now) _ c.requires.whole c.requires.absent (omega arith) refl c.push_reserved.ensures.items c.splice-self.ensures.text refl in
    record {
      originals = refl;
      classes = ap (packed class_size class_in (vec_items d.classes)) after.classes_are;
      kept = record { most_rows = refl; whole = omega (arith, c.splice-self.ensures.used, c.splice-self.ensures.len) };
    }

pub returns-clause-earlier : goal.returns-clause-earlier
returns-clause-earlier c p at = earlier_stands c.args.self.now _ _ p c.push_reserved.ensures.items at

pub returns-clause-front : goal.returns-clause-front
returns-clause-front c =
    let d = c.args.self.now in
    front_kept d c.args.store.now c.splice-self.new.area c.splice-self.result c.args.name.now c.requires.whole (omega (arith, c.splice-self.ensures.used, d.classes_filled)) c.splice-self.ensures.text
