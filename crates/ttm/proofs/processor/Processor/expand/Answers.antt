use Rattle.std.proofs.Common.{refl, drop, length}
use Rattle.std.proofs.lemmas.List.{take-take}
use Rattle.machine.specs.Calls.{world_of, from_zero}
use Rattle.machine.specs.Chain.{bounds, walk}
use Rattle.machine.specs.Scan.{expansion}
use Rattle.ttm.specs.Kept.{memory_in}
use Rattle.ttm.proofs.Replies.{widened}
use Rattle.ttm.proofs.processor.Processor.expand.Goals as goal

pub returns-in-Err-clause-replied : goal.returns-in-Err-clause-replied
returns-in-Err-clause-replied g c =
    let m = memory_in c.args.self.now c.args.store.now (g.K.Reader.meaning c.args.library.now) in
    rw (c.at_entry.ensures, c.in-Err.ensures.answers m) (record { number = refl; text_length = refl; shown = refl; printed_length = refl; printed = refl; needs = refl })

pub returns-in-Err-clause-memory : goal.returns-in-Err-clause-memory
returns-in-Err-clause-memory g c =
    let m = memory_in c.args.self.now c.args.store.now (g.K.Reader.meaning c.args.library.now) in
    rw (c.in-Err.ensures.answers m) refl

pub returns-clause-replied : goal.returns-clause-replied
returns-clause-replied g c =
    let p = c.args.self.now in
    let m = memory_in p c.args.store.now (g.K.Reader.meaning c.args.library.now) in
    rw (c.in_default.ensures.answers m) (widened (walk (bounds p.limits c.args.allowance) (from_zero p.created) (expansion g.C.Code.meaning c.args.source.now (world_of m))) c.run.result c.run.new.scan c.run.new.print
    (drop p.limits.scan c.args.scan.now) (drop p.limits.print c.args.print.now)
    (rw (← take-take p.dictionary.used p.limits.store c.args.store.now p.store_fits) c.run.ensures.replied))
