use Rattle.std.proofs.Common.{not}
use Rattle.code.specs.Meaning.{ranked}
use Rattle.ttm.proofs.Foreign.{Searched}
use Rattle.ttm.proofs.entry.foreign_place.Given as goal

-- no byte before the place is foreign
abbrev pub invariant-loop-place : goal.invariant-loop-place
invariant-loop-place g l = Searched (λ b. not (ranked g.C.Code.meaning b)) l.source l.place
