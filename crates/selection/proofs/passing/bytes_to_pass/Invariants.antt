use Rattle.std.proofs.Common.{◌≡◌, ◌+◌, drop}
use Rattle.machine.specs.Selection.{bytes_to_pass}
use Rattle.selection.proofs.passing.bytes_to_pass.Given as goal

abbrev pub invariant-loop-place : goal.invariant-loop-place
invariant-loop-place g l =
    l.place + bytes_to_pass g.C.Code.meaning l.left (drop l.place l.text) ≡ bytes_to_pass g.C.Code.meaning l.count l.text
