use Rattle.std.proofs.lemmas.Result.{err_from_is_err_and}
use Rattle.library.specs.Operations.{program_of}
use Rattle.library.proofs.Storing.{stored_is_found, stands}
use Rattle.library.proofs.using.store_and_find.Goals as goal

pub returns-in_err-store : goal.returns-in_err-store
returns-in_err-store g c =
    let told = c.in_err-store.ensures in
    let r = err_from_is_err_and c.from_residual.result c.from_residual.ensures.1 in
    rw (r.1, r.2) (record { refusal = told.refusal; after = told.after; stands = told.after; law = stored_is_found })

pub returns : goal.returns
returns g c =
    let told = c.in_ok-store.ensures in
    let p = program_of c.args.name.now (g.S.Source.strings c.args.strings.now) in
    let at = stands (g.K.Reader.meaning c.args.library.now) (g.K.Reader.meaning c.store.new.self) p c.programs-place.result told.refusal told.after c.programs-place.ensures in
    record { refusal = told.refusal; after = told.after; stands = at; law = stored_is_found }
