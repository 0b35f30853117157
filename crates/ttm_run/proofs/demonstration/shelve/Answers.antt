use Rattle.std.proofs.Common.{Some, None, sym, refl, ap}
use Rattle.std.proofs.lemmas.Result.{err_from_is_err_and}
use Rattle.library.specs.Locked.{locked_library}
use Rattle.library.specs.Operations.{program_of}
use Rattle.shelf.specs.Shelved.{meaning_of}
use Rattle.ttm_run.specs.Demonstration.{draft}
use Rattle.ttm_run.proofs.Shelving.{drafted, shelved}
use Rattle.ttm_run.proofs.demonstration.shelve.Goals as goal

pub returns-in_err-fill : goal.returns-in_err-fill
returns-in_err-fill g c =
    let r = err_from_is_err_and c.from_residual-in_err-fill.result c.from_residual-in_err-fill.ensures.1 in
    let is = drafted c.new-2.result c.unwrap-name.result c.new-2.ensures.value c.unwrap-name.ensures in
    let told = shelved (meaning_of c.in_ok-shelf.shelf) (meaning_of c.fill.new.library) (program_of c.unwrap-name.result draft.strings) (g.R.Reader.meaning c.args.from.now).programs (Some c.in_err-fill.field-0.0) c.in_ok-shelf.ensures is c.in_err-fill.ensures.filled in
    rw (r.1, r.2) (record { same = tt; refused = sym told.0 })

pub returns : goal.returns
returns g c =
    let is = drafted c.new-2.result c.unwrap-name.result c.new-2.ensures.value c.unwrap-name.ensures in
    let told = shelved (meaning_of c.in_ok-shelf.shelf) (meaning_of c.fill.new.library) (program_of c.unwrap-name.result draft.strings) (g.R.Reader.meaning c.args.from.now).programs None c.in_ok-shelf.ensures is c.in_ok-fill.ensures.filled in
    record { same = ap locked_library (told.1 refl); refused = sym told.0 }
