use Rattle.std.proofs.Common.{refl, []}
use Rattle.std.proofs.lemmas.Result.{err_from_is_err_and}
use Rattle.plan.proofs.Planning.{stopped_at}
use Rattle.dictionary_plans.proofs.Outcomes.{segment_planned}
use Rattle.dictionary_plans.proofs.segmenting.segment_string.Goals as goal

pub returns-in_err-string : goal.returns-in_err-string
returns-in_err-string g c =
    let p = err_from_is_err_and c.from_residual.result c.from_residual.ensures.1 in
    rw (p.1, p.2) (stopped_at c.args.sources.now _ _ _ c.in_err-string.ensures.string)

pub returns : goal.returns
returns g c =
    rw c.of_effect.ensures
    (segment_planned c.args.sources.now _ c.in_ok-string.ensures.string c.in_ok-string.ensures.place (λ places. []) _ _ tt c.is_numbered-numbered.ensures (λ enough. refl))
