use Rattle.std.proofs.Common.{◌+◌, take, length-take, arith}
use Rattle.dictionary_plans.proofs.Numbered.{mark_is}
use Rattle.dictionary_plans.proofs.Substrings.{mark_more, matches_within}
use Rattle.dictionary_plans.proofs.marking.mark_substrings.Goals as goal

pub overflow_add-places : goal.overflow_add-places
overflow_add-places g c =
    let text = take c.loop-n.len c.loop-n.text in
    omega (arith, c.mark_matches-marked.ensures.matches, matches_within c.get-substring.result.now text, length-take c.loop-n.len c.loop-n.text, c.loop-n.invariant.few)

pub loop-n-preserved : goal.loop-n-preserved
loop-n-preserved g c =
    let marked = c.mark_matches-marked in
    mark_more c.loop-n.invariant (omega arith) (omega arith) c.requires.small _ _ c.unwrap-mark.result _ _
    (rw c.from.ensures at c.get-substring.ensures)
    (mark_is g.C.Code.meaning (c.args.highest + c.loop-n.n + 1) _ c.segment_mark.ensures c.unwrap-mark.ensures)
    marked.ensures.text marked.ensures.marked_len marked.ensures.len marked.ensures.matches
