use Rattle.selection.proofs.Bytes.{OthersBelow}
use Rattle.selection.proofs.classes.class_of_others.Given as goal

abbrev pub invariant-loop-byte : goal.invariant-loop-byte
invariant-loop-byte g l = OthersBelow g.C.Code.meaning l.text l.member-items l.byte
