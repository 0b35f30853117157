use Rattle.dictionary_plans.proofs.Substrings.{MarkedSoFar}
use Rattle.dictionary_plans.proofs.marking.mark_substrings.Given as goal

abbrev pub invariant-loop-n : goal.invariant-loop-n
invariant-loop-n g l = MarkedSoFar g.C.Code.meaning l.highest l.parameters l.initial.text l.text l.n l.len l.places
