use Rattle.std.proofs.Common.{drop}
use Rattle.machine.specs.Functions.{filled}
use Rattle.value.proofs.Pieces.{Written}
use Rattle.value.proofs.filling.write_with.Given as goal

abbrev pub invariant-loop-byte : goal.invariant-loop-byte
invariant-loop-byte g l = Written l.out (filled g.C.Code.meaning l.parameters l.created (drop l.byte-index l.text)) (filled g.C.Code.meaning l.parameters l.created l.text) l.at
