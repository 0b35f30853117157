use Rattle.std.proofs.Common.{refl}
use Rattle.std.proofs.lemmas.Result.{err_from_is_err_and}
use Rattle.machine.specs.Dictionary.{rest_of}
use Rattle.machine.specs.Classes.{class_run}
use Rattle.dictionary.specs.Strings.{string_in}
use Rattle.class_plans.proofs.Runs.{run_has_no_marks}
use Rattle.class_plans.proofs.Read.{without_string, both_read}
use Rattle.class_plans.proofs.reading.find_run.Goals as goal

pub returns-in_err-string-clause-run : goal.returns-in_err-string-clause-run
returns-in_err-string-clause-run g c =
    let p = err_from_is_err_and c.from_residual-in_err-string.result c.from_residual-in_err-string.ensures.1 in
    rw (p.1, p.2) (without_string c.args.sources.now _ _ c.in_ok-members.ensures _ c.in_err-string.ensures.string)

pub returns-clause-run : goal.returns-clause-run
returns-clause-run g c =
    both_read c.args.sources.now (λ members s. (s, class_run g.C.Code.meaning members s)) _ c.in_ok-members.ensures _ _ c.in_ok-string.ensures.string
    (rw (c.class_run-len.ensures.run, c.rest-rest.ensures) refl)

pub returns-clause-unmarked : goal.returns-clause-unmarked
returns-clause-unmarked g c =
    rw (c.class_run-len.ensures.run, c.rest-rest.ensures) (run_has_no_marks g.C.Code.meaning c.in_ok-members.members.now (rest_of (string_in c.in_ok-string.string c.args.sources.now.store.now)))
