use Rattle.std.proofs.Common.{rules, refl, tests}
use Rattle.std.proofs.lemmas.Iterator.Consumers.{YieldsList-from_first}
use Rattle.std.proofs.lemmas.Iterator.Search.{all_from_yields_List}
use Rattle.image.specs.Layout.{proper_bytes}
use Rattle.image.specs.Reading.{line_read, lines_left}
use Rattle.image.proofs.contents.Contents.are_proper.Goals as goal

pub returns : goal.returns
returns g c =
    all_from_yields_List (proper_bytes g.C.Code.meaning) c.all.new.self _ _ c.all.ensures.ran (YieldsList-from_first line_read lines_left _ refl) (λ x b q k. search (rules, tests))
