use Rattle.std.proofs.Common.{refl}
use Rattle.machine.specs.Faults.{no_name}
use Rattle.plan.proofs.Planning.{refusing}
use Rattle.dictionary_plans.proofs.strings.copy_function.Goals as goal

pub returns-in-None : goal.returns-in-None
returns-in-None g c =
    refusing c.args.sources.now _ no_name (λ w sees. rw (sees.dictionary, ← c.get-name.ensures, ← c.in-None.ensures.meaning) refl)
