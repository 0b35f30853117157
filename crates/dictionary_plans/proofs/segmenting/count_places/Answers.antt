use Rattle.std.proofs.Common.{refl, sym, ◌∙◌, pos, FitsSigned, w64, rules}
use Rattle.std.proofs.lemmas.Bool.{false≢true}
use Rattle.std.proofs.lemmas.Int.{to_z-of_z}
use Rattle.std.proofs.lemmas.Result.{err_from_is_err_and}
use Rattle.machine.specs.Numbers.{written}
use Rattle.plan.proofs.Planning.{stopped_at}
use Rattle.dictionary_plans.proofs.Outcomes.{segment_planned}
use Rattle.dictionary_plans.proofs.segmenting.count_places.Goals as goal

pub returns-in_err-string-clause-plans : goal.returns-in_err-string-clause-plans
returns-in_err-string-clause-plans g c =
    let p = err_from_is_err_and c.from_residual.result c.from_residual.ensures.1 in
    rw (p.1, p.2) (stopped_at c.args.sources.now _ _ _ c.in_err-string.ensures.string)

pub returns-then-numbered-clause-plans : goal.returns-then-numbered-clause-plans
returns-then-numbered-clause-plans g c =
    let fits : FitsSigned w64 c.count_marked-places.result = search rules in
    segment_planned c.args.sources.now _ c.in_ok-string.ensures.string c.in_ok-string.ensures.place
    (λ places. written g.C.Code.meaning (pos places)) _ _ tt c.is_numbered-numbered.ensures
    (λ enough. rw (to_z-of_z w64 c.count_marked-places.result fits, c.count_marked-places.ensures.places) refl)

pub returns-else-numbered-clause-plans : goal.returns-else-numbered-clause-plans
returns-else-numbered-clause-plans g c =
    segment_planned c.args.sources.now _ c.in_ok-string.ensures.string c.in_ok-string.ensures.place
    (λ places. written g.C.Code.meaning (pos places)) _ _ tt c.is_numbered-numbered.ensures
    (λ enough. absurd (false≢true (sym c.if-numbered.false ∙ enough)))
