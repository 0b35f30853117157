use Rattle.machine.specs.Libraries.{is_string}
use Rattle.library_plans.specs.Named.{meant}
use Rattle.library_plans.proofs.Behind.{AllIfFrom}
use Rattle.library_plans.proofs.strings.are_strings.Given as goal

abbrev pub invariant-loop-n : goal.invariant-loop-n
invariant-loop-n g l = AllIfFrom (λ n. is_string (meant l.sources n)) l.sources.parameters.now l.n
