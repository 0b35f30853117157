use Rattle.std.proofs.Common.{map}
use Rattle.library.specs.Operations.{operation}
use Rattle.library.proofs.Running.{Underway}
use Rattle.library.proofs.request.carry_out_all.Given as goal

abbrev pub invariant-loop-request : goal.invariant-loop-request
invariant-loop-request g l =
    Underway (g.K.Reader.meaning l.initial.library) (g.K.Reader.meaning l.library) (map (operation g.S.Source.strings) l.requests) l.request-index l.refused
