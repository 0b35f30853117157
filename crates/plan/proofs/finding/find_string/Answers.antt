use Rattle.std.proofs.Common.{refl}
use Rattle.machine.specs.Faults.{not_a_string, no_name}
use Rattle.plan.proofs.Planning.{stopping}
use Rattle.plan.proofs.finding.find_string.Goals as goal

pub returns-in-Some-BuiltIn-clause-string : goal.returns-in-Some-BuiltIn-clause-string
returns-in-Some-BuiltIn-clause-string g c =
    stopping c.args.sources.now _ not_a_string (λ w sees go. rw (sees.dictionary, ← c.get-name.ensures, ← c.in-Some-BuiltIn.ensures.meaning, c.in-Some-BuiltIn.field-0-is) refl)

pub returns-in-None-clause-string : goal.returns-in-None-clause-string
returns-in-None-clause-string g c =
    stopping c.args.sources.now _ no_name (λ w sees go. rw (sees.dictionary, ← c.get-name.ensures, ← c.in-None.ensures.meaning) refl)
