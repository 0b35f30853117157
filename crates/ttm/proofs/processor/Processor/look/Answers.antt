use Rattle.std.proofs.Common.{refl, arith}
use Rattle.std.proofs.lemmas.Result.{err_from_is_err_and}
use Rattle.ttm.proofs.processor.Processor.look.Goals as goal

pub returns-in_err-admit_look : goal.returns-in_err-admit_look
returns-in_err-admit_look g c library =
    let p = err_from_is_err_and c.from_residual.result c.from_residual.ensures.1 in
    rw (p.1, p.2, c.in_err-admit_look.ensures c.args.name.now) refl

pub find-requires : goal.find-requires
find-requires g c =
    let p = c.in_ok-admit_look.ensures c.args.name.now in
    omega (arith, p.1, c.args.self.now.store_fits)

pub returns : goal.returns
returns g c library = rw (c.find.ensures, (c.in_ok-admit_look.ensures c.args.name.now).0) refl
