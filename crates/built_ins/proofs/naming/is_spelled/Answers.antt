use Rattle.std.proofs.Common.{◌==◌, rules, tests, ◌∙◌}
use Rattle.std.proofs.lemmas.Iterator.{YieldsList-from_slice, YieldsList-from_zip}
use Rattle.std.proofs.lemmas.Iterator.Consumers.{YieldsList-at}
use Rattle.std.proofs.lemmas.Iterator.Search.{all_from_yields_List}
use Rattle.built_ins.proofs.Spelled.{sign_of, zipped_is}
use Rattle.built_ins.proofs.naming.is_spelled.Goals as goal

pub returns-then-letters-name : goal.returns-then-letters-name
returns-then-letters-name g c =
    let letters = YieldsList-at c.zip.ensures.first (YieldsList-from_slice c.args.letters.now c.iter.ensures.rest) in
    let name = YieldsList-from_slice c.args.name.now c.zip.ensures.second.0 in
    all_from_yields_List (λ p. sign_of g.C.Code.meaning p.0 == p.1) c.all.new.self _ c.all.result c.all.ensures.ran (YieldsList-from_zip letters name) (λ x b q k. search (rules, tests))
    ∙ zipped_is g.C.Code.meaning c.args.letters.now c.args.name.now c.if-letters-name.true
