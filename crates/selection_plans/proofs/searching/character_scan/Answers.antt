use Rattle.std.proofs.Common.{◌≡◌, ◌+◌, length, Some, sym, ap, ◌∙◌, refl, arith}
use Rattle.machine.specs.Texts.{found_at}
use Rattle.machine.specs.Dictionary.{rest_of}
use Rattle.machine.specs.World.{p1}
use Rattle.machine.specs.Selection.{before_match}
use Rattle.dictionary.specs.Strings.{string_in}
use Rattle.value.specs.declared.value.Value.TheVariants.{Parameter, Passed}
use Rattle.selection_plans.proofs.OfString.{stopped, found_within, stays_within, then_values, then_passes}
use Rattle.selection_plans.proofs.searching.character_scan.Goals as goal

pub returns-in_err-string : goal.returns-in_err-string
returns-in_err-string g c = stopped c.args.sources.now _ _ _ _ c.in_err-string.ensures.string c.from_residual.ensures.1

pub overflow_add-place : goal.overflow_add-place
overflow_add-place g c =
    omega (arith, found_within c.get-sought.result.now c.rest-rest.result.now c.in-Some.place (sym c.find.ensures ∙ c.in-Some.is), c.rest-rest.type_inv.0)

pub pass-requires : goal.pass-requires
pass-requires g c =
    stays_within c.in_ok-string.string c.args.sources.now.store.now _
    (rw (← c.rest-rest.ensures) (found_within c.get-sought.result.now c.rest-rest.result.now c.in-Some.place (sym c.find.ensures ∙ c.in-Some.is)))

pub returns-in-Some : goal.returns-in-Some
returns-in-Some g c =
    let s = c.args.sources.now in
    let ps = s.parameters.now in
    let string = c.in_ok-string.string in
    let str = string_in string s.store.now in
    let place = c.in-Some.place in
    let found : found_at (p1 ps) (rest_of str) ≡ Some place = rw (← c.get-sought.ensures, ← c.rest-rest.ensures, ← c.find.ensures) c.in-Some.is in
    then_passes s 1 string (place + length (p1 ps)) (Passed string place) c.pass.result _ c.in_ok-string.ensures.string c.in_ok-string.ensures.place
    (found_within (p1 ps) (rest_of str) place found) c.in_ok-string.ensures.place.at
    (rw (← c.get-sought.ensures) c.pass.ensures) (λ w. ap (before_match g.C.Code.meaning ps str w) found)

pub returns-in-None : goal.returns-in-None
returns-in-None g c =
    then_values c.args.sources.now 1 c.in_ok-string.string (Parameter 2) c.of_value.result _ c.in_ok-string.ensures.string tt c.of_value.ensures
    (λ w. rw (← c.get-sought.ensures, ← c.rest-rest.ensures, ← c.find.ensures, c.in-None.is) refl)
