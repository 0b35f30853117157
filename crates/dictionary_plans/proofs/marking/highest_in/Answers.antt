use Rattle.dictionary_plans.proofs.Numbered.{highest_within}
use Rattle.dictionary_plans.proofs.marking.highest_in.Goals as goal

pub returns-clause-within : goal.returns-clause-within
returns-clause-within g c = rw c.highest_mark.ensures (highest_within g.C.Code.meaning g.C.Code.laws c.args.body.now (λ k h. (c.type_inv.body k).fits))
