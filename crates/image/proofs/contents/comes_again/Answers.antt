use Rattle.std.proofs.Common.{◌∙◌, rules, tests}
use Rattle.std.specs.Str.{bytes_eq}
use Rattle.std.proofs.lemmas.Iterator.{YieldsList-from_slice}
use Rattle.std.proofs.lemmas.Iterator.Search.{any_from_yields_List}
use Rattle.image.specs.Contents.{first_entry, program_of}
use Rattle.image.proofs.Rows.{among_rows}
use Rattle.image.proofs.contents.comes_again.Goals as goal

pub returns : goal.returns
returns c =
    let name = c.args.name.now in
    let rows = c.args.entries.now in
    any_from_yields_List (λ r. bytes_eq (program_of (first_entry r)) name) _ _ _ c.any.ensures.ran (YieldsList-from_slice rows cc) (λ x b q k. search (rules, tests))
    ∙ among_rows name rows
