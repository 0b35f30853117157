use Rattle.std.proofs.Common.{◌≡◌, ◌≤◌, false, drop}
use Rattle.machine.specs.Scan.{match_of}
use Rattle.scan.proofs.Turns.{from}
use Rattle.scan.proofs.matching.find_match.Given as goal

-- the match in what is left is the match in the whole
abbrev pub invariant-loop-at : goal.invariant-loop-at
invariant-loop-at g l = record {
  same : match_of g.C.Code.meaning false 0 l.text ≡ from l.at (match_of g.C.Code.meaning l.protected l.depth (drop l.at l.text));
  bounded : l.depth ≤ l.at;
}
