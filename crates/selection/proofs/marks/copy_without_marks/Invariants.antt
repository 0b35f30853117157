use Rattle.std.proofs.Common.{not}
use Rattle.code.specs.Meaning.{marked}
use Rattle.selection.proofs.Copied.{CopiedSoFar}
use Rattle.selection.proofs.marks.copy_without_marks.Given as goal

abbrev pub invariant-loop-byte : goal.invariant-loop-byte
invariant-loop-byte g l = CopiedSoFar (λ b. not (marked g.C.Code.meaning b)) l.text l.initial.out l.out l.byte-index l.len
