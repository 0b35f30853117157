use Rattle.std.proofs.Common.{◌≡◌, max, unwrap_or, sym, ap, ◌∙◌, rules, tests}
use Rattle.std.specs.List.{reduce, filter_map}
use Rattle.std.proofs.lemmas.Iterator.{YieldsList-from_slice}
use Rattle.std.proofs.lemmas.Iterator.Adapters.{option_map_id}
use Rattle.std.proofs.lemmas.Iterator.Consumers.{YieldsList-from_filter_map, max_from_yields_List}
use Rattle.selection.proofs.Highest.{highest_is}
use Rattle.selection.proofs.marks.highest_mark.Goals as goal

pub returns : goal.returns
returns g c =
    let code = g.C.Code.meaning in
    let body = c.args.body.now in
    let most : c.max.result ≡ reduce max (filter_map code.mark_number body) =
    sym (option_map_id c.max.result)
    ∙ max_from_yields_List c.filter_map.result c.max.result c.max.ensures.ran
    (YieldsList-from_filter_map _ code.mark_number (YieldsList-from_slice body (cc)) c.filter_map.ensures.closure (λ x r q k. search (rules, tests))) in
    c.unwrap_or.ensures ∙ ap (λ o. unwrap_or o 0) most ∙ highest_is code body
