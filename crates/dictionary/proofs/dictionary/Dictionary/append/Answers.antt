use Rattle.std.proofs.Common.{◌+◌, length, set, take, ap, ◌∙◌, arith}
use Rattle.std.specs.List.{splice}
use Rattle.machine.specs.Strings.{appended}
use Rattle.dictionary.specs.Meant.{rows_in}
use Rattle.dictionary.specs.Finding.{name_at, body_at}
use Rattle.dictionary.specs.Editing.{row_of}
use Rattle.dictionary.specs.Strings.{place_of, string_in}
use Rattle.dictionary.proofs.Located.{spot}
use Rattle.dictionary.proofs.Meant.{rows_edited}
use Rattle.dictionary.proofs.Said.{row_said, body_length, string_of, meaning_appended}
use Rattle.dictionary.proofs.dictionary.Dictionary.append.Goals as goal

pub overflow_add-longer : goal.overflow_add-longer
overflow_add-longer c = let here = spot c.args.self.now (place_of c.args.string) c.requires.place in omega arith

pub returns-clause-meaning : goal.returns-clause-meaning
returns-clause-meaning c name first =
    let d = c.args.self.now in
    let s = c.args.string in
    let st = c.args.store.now in
    let n = s.extent.length in
    let more = c.args.more.now in
    let longer = n + length more in
    rows_edited d c.edit.new.self st c.edit.new.store _ c.edit.ensures.others
    (c.edit.ensures.row
    ∙ ap (λ p. set (rows_in d st) p.index (row_of (name_at p st) (string_of (take longer (splice (body_at p st) n n more)) longer))) c.place.ensures
    ∙ row_said d st name s _ (appended more (string_in s st)) c.requires.whole c.requires.place first
    (meaning_appended (string_in s st).body more n s.extent.pointer (body_length d st s c.requires.whole c.requires.place)))
