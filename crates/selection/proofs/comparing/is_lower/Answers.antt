use Rattle.std.proofs.Common.{◌≡◌, map, refl, rules, tests}
use Rattle.std.specs.Ordering.{nat_cmp}
use Rattle.std.proofs.lemmas.Iterator.{YieldsList-from_slice, YieldsList-from_map}
use Rattle.std.proofs.lemmas.Iterator.Consumers.{YieldsList-at}
use Rattle.std.proofs.lemmas.Iterator.Search.{cmp_from_yields_List}
use Rattle.machine.specs.Texts.{rank_in}
use Rattle.std.specs.Cmp.Lexicographic.{slice_cmp}
use Rattle.selection.proofs.Lower.{lower_is}
use Rattle.selection.proofs.comparing.is_lower.Goals as goal

pub returns : goal.returns
returns g c =
    let rank = rank_in g.C.Code.meaning in
    let one = c.args.one.now in
    let other = c.args.other.now in
    let ordered : c.cmp.result ≡ slice_cmp nat_cmp (map rank one) (map rank other) =
    cmp_from_yields_List (λ x y. y ≡ x) _ nat_cmp _ c.cmp.ensures.ran
    (YieldsList-from_map _ rank (YieldsList-from_slice one (cc)) c.map.ensures.closure (λ x r q k. search (rules, tests)))
    (λ it e. YieldsList-at e (YieldsList-from_map _ rank (YieldsList-from_slice other (cc)) c.map-2.ensures.closure (λ x r q k. search (rules, tests))))
    (λ x y. refl) in
    let lower = lower_is g.C.Code.meaning one other in
    cc
