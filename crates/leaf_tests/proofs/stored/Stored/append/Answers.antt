use Rattle.std.proofs.Common.{arith}
use Rattle.leaf_tests.proofs.Fitting.{counted_used}
use Rattle.leaf_tests.proofs.stored.Stored.append.Goals as goal

pub overflow_sub-len : goal.overflow_sub-len
overflow_sub-len g c =
    let own = c.args.self.now in
    let used = counted_used own.dictionary own.store.items c.bytes.result (omega (arith, own.whole, own.store.ok.0)) c.bytes.ensures.bytes in
    omega (arith, used, own.whole, c.len.ensures)

pub append-requires-clause-fits : goal.append-requires-clause-fits
append-requires-clause-fits g c =
    let own = c.args.self.now in
    let used = counted_used own.dictionary own.store.items c.bytes.result (omega (arith, own.whole, own.store.ok.0)) c.bytes.ensures.bytes in
    omega (arith, used, own.whole, c.len.ensures, c.if-more-len.false, c.as_mut_slice.ensures.len)
