use Rattle.std.proofs.Common.{drop}
use Rattle.machine.specs.Functions.{filled}
use Rattle.value.proofs.Caps.{Counted}
use Rattle.value.proofs.filling.length_with.Given as goal

abbrev pub invariant-loop-byte : goal.invariant-loop-byte
invariant-loop-byte g l = Counted l.len (filled g.C.Code.meaning l.parameters l.created (drop l.byte-index l.text)) (filled g.C.Code.meaning l.parameters l.created l.text)
