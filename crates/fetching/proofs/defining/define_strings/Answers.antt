use Rattle.std.proofs.Common.{arith}
use Rattle.std.proofs.lemmas.Result.{err_from_is_err_and}
use Rattle.fetching.proofs.Strings.{under_ends, under_stops, under_next}
use Rattle.fetching.proofs.defining.define_strings.Goals as goal

pub loop-string-preserved : goal.loop-string-preserved
loop-string-preserved g c =
    under_next g.C.Code.meaning _ _ _ _ _ _ _ _ c.loop-string.invariant _ _ c.in-Some.ensures.steps _ _ _ c.in_ok-define_string.ensures.kept (omega arith) c.in_ok-define_string.ensures.meets

pub returns-in_err-define_string-clause-meets : goal.returns-in_err-define_string-clause-meets
returns-in_err-define_string-clause-meets g c w =
    let p = err_from_is_err_and c.from_residual.result c.from_residual.ensures.1 in
    rw (p.1, p.2) (under_stops g.C.Code.meaning _ _ _ _ _ _ _ _ c.loop-string.invariant _ _ c.in-Some.ensures.steps _ _ _ _ w (c.in_err-define_string.ensures.meets w))

pub returns-clause-meets : goal.returns-clause-meets
returns-clause-meets g c w = under_ends g.C.Code.meaning _ _ _ _ _ _ _ _ c.loop-string.invariant w c.in-None.ensures.steps.0
