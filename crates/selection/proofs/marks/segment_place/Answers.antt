use Rattle.std.proofs.Common.{◌∙◌, rules, tests}
use Rattle.machine.specs.Texts.{segment}
use Rattle.std.proofs.lemmas.Iterator.{YieldsList-from_slice}
use Rattle.std.proofs.lemmas.Iterator.Adapters.{position_from-zero}
use Rattle.std.proofs.lemmas.Iterator.Search.{position_from_yields_List}
use Rattle.selection.proofs.Places.{first_place_is}
use Rattle.selection.proofs.marks.segment_place.Goals as goal

pub returns-clause-place : goal.returns-clause-place
returns-clause-place g c =
    let text = c.args.text.now in
    let test = segment g.C.Code.meaning in
    position_from_yields_List test _ _ c.position.result c.position.ensures.ran (YieldsList-from_slice text (cc)) (λ x b q k. search (rules, tests))
    ∙ position_from-zero test text ∙ first_place_is test text
