use Rattle.std.proofs.lemmas.Result.{err_from_is_err_and}
use Rattle.exchange.proofs.InTurn.{turn_on, turn_off, turns_end, stored_in_order}
use Rattle.exchange.proofs.copying.store_programs.Goals as goal

pub loop-program-preserved : goal.loop-program-preserved
loop-program-preserved g c =
    turn_on (g.K.Reader.meaning c.args.library.now) (g.K.Reader.meaning c.loop-program.library) (g.K.Reader.meaning c.store_program.new.library) c.args.first c.loop-program.program c.args.end (g.R.Reader.meaning c.args.from.now).programs c.loop-program-test.true c.in_ok-store_program.ensures c.loop-program.invariant

pub returns-in_err-store_program : goal.returns-in_err-store_program
returns-in_err-store_program g c =
    let r = err_from_is_err_and c.from_residual.result c.from_residual.ensures.1 in
    let told = turn_off (g.K.Reader.meaning c.args.library.now) (g.K.Reader.meaning c.loop-program.library) (g.K.Reader.meaning c.store_program.new.library) c.args.first c.loop-program.program c.args.end (g.R.Reader.meaning c.args.from.now).programs c.in_err-store_program.field-0.0 c.loop-program-test.true c.in_err-store_program.ensures c.loop-program.invariant in
    rw (r.1, r.2) (record { stored = told; law = stored_in_order })

pub returns : goal.returns
returns g c =
    let told = turns_end (g.K.Reader.meaning c.args.library.now) (g.K.Reader.meaning c.loop-program.library) c.args.first c.loop-program.program c.args.end (g.R.Reader.meaning c.args.from.now).programs c.loop-program-test.false c.loop-program.invariant in
    record { stored = told; law = stored_in_order }
