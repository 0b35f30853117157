use Rattle.std.proofs.Common.{Ok}
use Rattle.machine.specs.World.{p1, of_string}
use Rattle.dictionary.specs.Strings.{string_in}
use Rattle.plan.proofs.Planning.{then_plans}
use Rattle.selection_plans.proofs.OfString.{stopped}
use Rattle.selection_plans.proofs.parts.call_segment.Goals as goal

pub returns-in_err-string : goal.returns-in_err-string
returns-in_err-string g c = stopped c.args.sources.now _ _ _ _ c.in_err-string.ensures.string c.from_residual.ensures.1

pub returns : goal.returns
returns g c =
    let s = c.args.sources.now in
    then_plans s (of_string g.C.Code.meaning (p1 s.parameters.now)) _ (string_in c.in_ok-string.string s.store.now) (Ok c.up_to.result) c.in_ok-string.ensures.string
    (rw (← c.rest-rest.ensures, ← c.segment_place.ensures.place) c.up_to.ensures)
