use Rattle.std.proofs.Common.{◌∙◌, sym, rules, tests}
use Rattle.std.proofs.lemmas.Iterator.{YieldsList-from_slice}
use Rattle.std.proofs.lemmas.Iterator.Search.{all_from_yields_List}
use Rattle.std.proofs.lemmas.List.Folds.{list_all-map}
use Rattle.image.specs.Contents.{first_entry}
use Rattle.image.specs.Questions.{well_named}
use Rattle.image.proofs.contents.are_well_named.Goals as goal

pub returns : goal.returns
returns c =
    let rows = c.args.entries.now in
    all_from_yields_List (λ r. well_named (first_entry r)) _ _ _ c.all.ensures.ran (YieldsList-from_slice rows cc) (λ x b q k. search (rules, tests))
    ∙ sym (list_all-map well_named first_entry rows)
