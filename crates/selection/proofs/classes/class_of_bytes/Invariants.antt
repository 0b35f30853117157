use Rattle.selection.proofs.Bytes.{FlagsOf}
use Rattle.selection.proofs.classes.class_of_bytes.Given as goal

abbrev pub invariant-loop-byte : goal.invariant-loop-byte
invariant-loop-byte l = FlagsOf l.text l.members l.byte-index
