use Rattle.dictionary.specs.Meant.{dictionary_in}
use Rattle.library_plans.proofs.Behind.{Left}
use Rattle.library_plans.proofs.strings.room_after.Given as goal

abbrev pub invariant-loop-n : goal.invariant-loop-n
invariant-loop-n g l = Left g.C.Code.meaning (dictionary_in l.sources.dictionary.now l.sources.store.now) l.sources.parameters.now l.room l.left l.n
