use Rattle.std.proofs.Common.{refl}
use Rattle.std.proofs.lemmas.Result.{err_from_is_err_and}
use Rattle.machine.specs.Dictionary.{rest_of}
use Rattle.machine.specs.Classes.{begins_with, in_class}
use Rattle.class_plans.proofs.Read.{without_string, both_read}
use Rattle.class_plans.proofs.reading.begins_with_class.Goals as goal

pub returns-in_err-string : goal.returns-in_err-string
returns-in_err-string g c =
    let p = err_from_is_err_and c.from_residual-in_err-string.result c.from_residual-in_err-string.ensures.1 in
    rw (p.1, p.2) (without_string c.args.sources.now _ _ c.in_ok-class.ensures _ c.in_err-string.ensures.string)

pub returns : goal.returns
returns g c =
    both_read c.args.sources.now (λ members s. begins_with (in_class g.C.Code.meaning members) (rest_of s)) _ c.in_ok-class.ensures _ _ c.in_ok-string.ensures.string
    (rw (c.begins_with_member.ensures, c.rest-rest.ensures) refl)
