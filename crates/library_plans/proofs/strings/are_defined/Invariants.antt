use Rattle.std.proofs.Common.{is_some}
use Rattle.library_plans.specs.Named.{meant}
use Rattle.library_plans.proofs.Behind.{AllIfFrom}
use Rattle.library_plans.proofs.strings.are_defined.Given as goal

abbrev pub invariant-loop-n : goal.invariant-loop-n
invariant-loop-n g l = AllIfFrom (λ n. is_some (meant l.sources n)) l.sources.parameters.now l.n
