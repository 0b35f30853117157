use Rattle.performing.proofs.Marking.{Marking}
use Rattle.performing.proofs.segmenting.segment_by_all.Given as goal

abbrev pub invariant-loop-n : goal.invariant-loop-n
invariant-loop-n g l = Marking g.C.Code.meaning l.parameters l.fn.dictionary l.fn.store l.fn.string l.dictionary l.store l.place l.n l.number
