use Rattle.std.proofs.Common.{arith, length-append, length-drop, rules}
use Rattle.std.proofs.lemmas.List.{take_at}
use Rattle.library.proofs.program_name.ProgramName.new.Goals as goal

pub invariant_of-result-clause-whole : goal.invariant_of-result-clause-whole
invariant_of-result-clause-whole c = simp (length-append, length-drop) (omega arith)

pub returns : goal.returns
returns c = search (rules, take_at)
