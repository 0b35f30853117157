use Rattle.std.proofs.Common.{refl}
use Rattle.machine.specs.Faults.{not_a_string}
use Rattle.plan.proofs.Planning.{refusing}
use Rattle.dictionary_plans.proofs.strings.append_string.Goals as goal

pub returns-in-Some-BuiltIn : goal.returns-in-Some-BuiltIn
returns-in-Some-BuiltIn g c =
    refusing c.args.sources.now _ not_a_string (λ w sees. rw (sees.dictionary, ← c.get-name.ensures, ← c.in-Some-BuiltIn.ensures.meaning, c.in-Some-BuiltIn.field-0-is) refl)
