use Rattle.built_ins.proofs.Listed.{least_at}
use Rattle.built_ins.proofs.facts.least_parameters.Goals as goal

pub returns : goal.returns
returns c = least_at c.built_ins.result.now c.built_ins.ensures c.place_of.result c.args.function _ c.place_of.ensures.place
