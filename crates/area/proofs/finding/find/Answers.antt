use Rattle.std.proofs.Common.{◌<◌, length, sym, ◌∙◌, rules, tests}
use Rattle.std.proofs.lemmas.Iterator.{YieldsList}
use Rattle.std.proofs.lemmas.Iterator.Search.{position_from_yields_List}
use Rattle.std.specs.Slice.Iter.{windows_steps}
use Rattle.area.proofs.Found.{windows_of, each_window, is_text, found_is, nowhere}
use Rattle.area.proofs.finding.find.Goals as goal

pub returns-then-is_empty : goal.returns-then-is_empty
returns-then-is_empty c = sym (nowhere c.args.sought.now c.args.text.now (search (rules, tests)))

pub returns : goal.returns
returns c =
    let some : 0 < length c.args.sought.now = search (rules, tests) in
    let windows : YieldsList windows_steps (λ w. w.now) c.windows.result (windows_of (length c.args.sought.now) c.args.text.now) =
    record { runs = each_window _ _ _ some c.windows.ensures.size c.windows.ensures.rest } in
    position_from_yields_List (is_text c.args.sought.now) _ _ c.position.result c.position.ensures.ran windows (λ x b q k. search (rules, tests))
    ∙ found_is c.args.sought.now c.args.text.now some
