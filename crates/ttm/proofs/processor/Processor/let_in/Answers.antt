use Rattle.std.proofs.lemmas.Result.{err_from_is_err_and}
use Rattle.ttm.specs.Entering.{areas_of}
use Rattle.ttm.proofs.Entries.{away, foreign, let_in}
use Rattle.ttm.proofs.processor.Processor.let_in.Goals as goal

pub returns-in_err-admit_expansion : goal.returns-in_err-admit_expansion
returns-in_err-admit_expansion g c =
    let p = err_from_is_err_and c.from_residual.result c.from_residual.ensures.1 in
    let q = c.in_err-admit_expansion.ensures c.args.source.now in
    rw (p.1, p.2) (away g.C.Code.meaning c.args.self.now.limits c.args.allowance c.args.source.now (areas_of c.args.store c.args.scan c.args.print) c.in_err-admit_expansion.field-0.0 q.0 q.1)

pub returns-in-Some : goal.returns-in-Some
returns-in-Some g c =
    foreign g.C.Code.meaning c.args.self.now.limits c.args.allowance c.args.source.now (areas_of c.args.store c.args.scan c.args.print) (c.in_ok-admit_expansion.ensures c.args.source.now) c.foreign_place.result c.foreign_place.ensures
    _ c.in-Some.is

pub returns-in-None : goal.returns-in-None
returns-in-None g c =
    let_in g.C.Code.meaning c.args.self.now.limits c.args.allowance c.args.source.now (areas_of c.args.store c.args.scan c.args.print) (c.in_ok-admit_expansion.ensures c.args.source.now) c.foreign_place.result c.foreign_place.ensures
    c.in-None.is
