use Rattle.std.proofs.Common.{◌≡◌, ◌&&◌, length, true, false, sym, ◌∙◌}
use Rattle.std.proofs.lemmas.Bool.{and_parts, cond-true, cond-false}
use Rattle.machine.specs.Texts.{not_empty, begins}
use Rattle.machine.specs.Dictionary.{rest_of}
use Rattle.machine.specs.World.{p1}
use Rattle.machine.proofs.Passing.{begun_within}
use Rattle.dictionary.specs.Strings.{string_in}
use Rattle.value.specs.declared.value.Value.TheVariants.{Parameter}
use Rattle.selection_plans.proofs.OfString.{stopped, stays_within, then_values, then_passes}
use Rattle.selection_plans.proofs.searching.initial_scan.Goals as goal

pub returns-in_err-string : goal.returns-in_err-string
returns-in_err-string g c = stopped c.args.sources.now _ _ _ _ c.in_err-string.ensures.string c.from_residual.ensures.1

pub pass-requires : goal.pass-requires
pass-requires g c =
    stays_within c.in_ok-string.string c.args.sources.now.store.now _
    (rw (← c.rest-rest.ensures) (begun_within c.get-sought.result.now c.rest-rest.result.now (and_parts _ _ (sym c.begins_with.ensures ∙ c.if-begins_with.true)).1))

pub returns-then-begins_with : goal.returns-then-begins_with
returns-then-begins_with g c =
    let s = c.args.sources.now in
    let sought = p1 s.parameters.now in
    let string = c.in_ok-string.string in
    let rest = rest_of (string_in string s.store.now) in
    let begun : not_empty sought && begins sought rest ≡ true = rw (← c.get-sought.ensures, ← c.rest-rest.ensures, ← c.begins_with.ensures) c.if-begins_with.true in
    then_passes s 1 string (length sought) (Parameter 2) c.pass.result _ c.in_ok-string.ensures.string c.in_ok-string.ensures.place
    (begun_within sought rest (and_parts _ _ begun).1) tt (rw (← c.get-sought.ensures) c.pass.ensures) (λ w. cond-true _ _ _ begun)

pub returns-else-begins_with : goal.returns-else-begins_with
returns-else-begins_with g c =
    let s = c.args.sources.now in
    let sought = p1 s.parameters.now in
    let rest = rest_of (string_in c.in_ok-string.string s.store.now) in
    let not_begun : not_empty sought && begins sought rest ≡ false = rw (← c.get-sought.ensures, ← c.rest-rest.ensures, ← c.begins_with.ensures) c.if-begins_with.false in
    then_values s 1 c.in_ok-string.string (Parameter 3) c.of_value.result _ c.in_ok-string.ensures.string tt c.of_value.ensures (λ w. cond-false _ _ _ not_begun)
