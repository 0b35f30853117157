use Rattle.std.proofs.lemmas.Result.{err_from_is_err_and}
use Rattle.library.specs.Operations.{program_of}
use Rattle.library.proofs.Storing.{delete_undoes_store, undone}
use Rattle.library.proofs.using.try_out.Goals as goal

pub returns-in_err-store : goal.returns-in_err-store
returns-in_err-store g c =
    let told = c.in_err-store.ensures in
    let r = err_from_is_err_and c.from_residual.result c.from_residual.ensures.1 in
    rw (r.1, r.2) (record { refusal = told.refusal; same = told.after; law = delete_undoes_store })

pub returns : goal.returns
returns g c =
    let stored = c.in_ok-store.ensures in
    let deleted = c.delete.ensures in
    let meaning = g.K.Reader.meaning in
    let p = program_of c.args.name.now (g.S.Source.strings c.args.strings.now) in
    let back = undone (meaning c.args.library.now) (meaning c.store.new.self) (meaning c.delete.new.self) p _ stored.refusal stored.after deleted.refusal deleted.after in
    record { refusal = back.0; same = back.1; law = delete_undoes_store }
