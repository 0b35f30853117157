use Rattle.std.proofs.Common.{refl}
use Rattle.machine.specs.Dictionary.{rest_of}
use Rattle.machine.specs.Selection.{bytes_to_pass}
use Rattle.machine.proofs.Passing.{bytes_within}
use Rattle.dictionary.specs.Strings.{string_in}
use Rattle.value.specs.declared.value.Value.TheVariants.{Passed}
use Rattle.selection_plans.proofs.OfString.{stopped, then_passes}
use Rattle.selection_plans.proofs.characters.call_characters.Goals as goal

pub returns-in_err-string : goal.returns-in_err-string
returns-in_err-string g c = stopped c.args.sources.now _ _ _ _ c.in_err-string.ensures.string c.from_residual.ensures.1

pub returns : goal.returns
returns g c =
    let code = g.C.Code.meaning in
    let string = c.in_ok-string.string in
    let rest = rest_of (string_in string c.args.sources.now.store.now) in
    let len = bytes_to_pass code c.args.count rest in
    then_passes c.args.sources.now c.args.name string len (Passed string len) c.pass.result _ c.in_ok-string.ensures.string c.in_ok-string.ensures.place
    (bytes_within code c.args.count rest) c.in_ok-string.ensures.place.at
    (rw (← c.rest-rest.ensures, ← c.bytes_to_pass-len.ensures.bytes) c.pass.ensures) (λ w. refl)
