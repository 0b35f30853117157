use Rattle.std.proofs.Common.{◌+◌, take, drop, slice_range, sym, ap, ◌∙◌, arith}
use Rattle.machine.specs.Texts.{first_place}
use Rattle.machine.specs.Strings.{matches}
use Rattle.dictionary.specs.declared.finding.Place.{Place}
use Rattle.dictionary.specs.Meant.{rows_in}
use Rattle.dictionary.specs.Finding.{row_named}
use Rattle.dictionary.specs.Strings.{place_of}
use Rattle.dictionary.proofs.Located.{spot}
use Rattle.dictionary.proofs.Meant.{rows_edited}
use Rattle.dictionary.proofs.Said.{string_of}
use Rattle.dictionary.proofs.Overwritten.{overwritten, rest_in_store, marks_cut, value_cut, rows_cut, same_string}
use Rattle.dictionary.proofs.Changed.{means_there}
use Rattle.dictionary.proofs.Firsts.{first_kept}
use Rattle.dictionary.proofs.dictionary.Dictionary.mark.Goals as goal

pub body_start-body-requires : goal.body_start-body-requires
body_start-body-requires c = let here = spot c.args.self.now (place_of c.args.string.now) c.requires.place in omega arith

pub overflow_add-start : goal.overflow_add-start
overflow_add-start c =
    let here = spot c.args.self.now (place_of c.args.string.now) c.requires.place in
    omega (arith, c.body_start-body.ensures, c.args.string.now.extent.within)

pub overflow_add-end : goal.overflow_add-end
overflow_add-end c =
    let here = spot c.args.self.now (place_of c.args.string.now) c.requires.place in
    omega (arith, c.body_start-body.ensures)

pub mark_part-marked-requires : goal.mark_part-marked-requires
mark_part-marked-requires c =
    let here = spot c.args.self.now (place_of c.args.string.now) c.requires.place in
    let e = c.body_start-body.ensures in
    (omega (arith, c.args.string.now.extent.within), omega arith)

pub returns-clause-matches : goal.returns-clause-matches
returns-clause-matches c =
    let s = c.args.string.now in
    c.mark_part-marked.ensures.matches
    ∙ ap (λ b. matches c.args.sought.now (slice_range c.args.store.now (b + s.extent.pointer) (b + s.extent.length))) c.body_start-body.ensures
    ∙ ap (matches c.args.sought.now) (rest_in_store s c.args.store.now)

pub returns-clause-meaning : goal.returns-clause-meaning
returns-clause-meaning c name first =
    let d = c.args.self.now in
    let s = c.args.string.now in
    let st = c.args.store.now in
    let after = c.mark_part-marked.new.store in
    let cut = marks_cut d st after s c.body_start-body.result c.mark_part-marked.result.len c.args.sought.now c.args.mark c.requires.whole c.requires.place c.body_start-body.ensures c.mark_part-marked.auto.store c.mark_part-marked.ensures.others c.mark_part-marked.ensures.within c.mark_part-marked.ensures.text in
    let over = overwritten d st after (place_of s) s.extent.pointer s.extent.length _ cut.whole cut.at cut.size (omega arith) cut.after_is in
    rows_edited d c.edit.new.self st c.edit.new.store _ (record { originals = c.edit.ensures.others.originals; classes = c.edit.ensures.others.classes ∙ over.classes_are; kept = c.edit.ensures.others.kept })
    (rows_cut d st after s _ _ _ c.place-place.result _ cut c.place-place.ensures c.edit.ensures.row name first)

pub returns-clause-string : goal.returns-clause-string
returns-clause-string c =
    let d = c.args.self.now in
    let s = c.args.string.now in
    let st = c.args.store.now in
    let after = c.mark_part-marked.new.store in
    let cut = marks_cut d st after s c.body_start-body.result c.mark_part-marked.result.len c.args.sought.now c.args.mark c.requires.whole c.requires.place c.body_start-body.ensures c.mark_part-marked.auto.store c.mark_part-marked.ensures.others c.mark_part-marked.ensures.within c.mark_part-marked.ensures.text in
    let p = s.extent.pointer in
    same_string _ _
    (ap (λ (q : Place). string_of (take (p + c.mark_part-marked.result.len) (drop (q.start + q.row.name) c.edit.new.store)) p) (sym c.place-place.ensures)
    ∙ means_there c.edit.new.self c.edit.new.store _ (rows_in d after) _ _ c.edit.ensures.others.kept.whole c.edit.ensures.place c.edit.ensures.row
    ∙ value_cut d st after s _ _ _ c.place-place.result cut c.place-place.ensures)

pub returns-clause-named : goal.returns-clause-named
returns-clause-named c name first =
    let d = c.args.self.now in
    let s = c.args.string.now in
    let st = c.args.store.now in
    let after = c.mark_part-marked.new.store in
    let cut = marks_cut d st after s c.body_start-body.result c.mark_part-marked.result.len c.args.sought.now c.args.mark c.requires.whole c.requires.place c.body_start-body.ensures c.mark_part-marked.auto.store c.mark_part-marked.ensures.others c.mark_part-marked.ensures.within c.mark_part-marked.ensures.text in
    ap (first_place (row_named name)) (rows_cut d st after s _ _ _ c.place-place.result _ cut c.place-place.ensures c.edit.ensures.row name first)
    ∙ first_kept name _ (rows_in d st) s.index first
