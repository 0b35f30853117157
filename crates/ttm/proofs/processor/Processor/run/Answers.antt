use Rattle.std.proofs.Common.{◌≡◌, refl, sym, ap, ◌∙◌, [], take, arith}
use Rattle.machine.specs.Calls.{from_zero, world_of}
use Rattle.machine.specs.Chain.{bounds, walk}
use Rattle.machine.specs.Scan.{expansion}
use Rattle.meter.specs.Metered.{tally}
use Rattle.expansion.specs.Expanding.{CameTo, world_of_parts}
use Rattle.ttm.specs.Kept.{memory_in}
use Rattle.ttm.proofs.Late.{answered_late}
use Rattle.ttm.proofs.Replies.{replied, taken_back}
use Rattle.ttm.proofs.processor.Processor.run.Goals as goal

pub returns-clause-replied : goal.returns-clause-replied
returns-clause-replied g c =
    let e = c.expand_source-expanded in
    let p = c.args.self.now in
    let w = world_of_parts e.new.dictionary e.new.store (g.K.Reader.meaning e.new.library) (take e.result.printed e.new.print) (take e.result.called e.new.called) in
    let came : CameTo e.result.outcome w e.new.scan (tally e.new.meter) (walk (bounds p.limits c.args.allowance) (from_zero p.created) (expansion g.C.Code.meaning c.args.source.now (world_of (memory_in p c.args.store.now (g.K.Reader.meaning c.args.library.now)))))
    = rw (← c.start-meter.ensures.bounds, ← c.start-meter.ensures.tally) e.ensures.expands.came_to
    in
    let called : e.new.called ≡ c.deref.result.now = sym (taken_back c.args.self.now.called.len e.new.called _ (omega (arith, c.deref_mut.ensures.len))) ∙ sym c.deref.ensures.value in
    replied w (tally e.new.meter) e.new.print (take e.result.called c.deref.result.now) e.result.printed e.ensures.printed refl (ap (take e.result.called) called) e.result.outcome e.new.scan c.conclude.new.scan _ c.conclude.result came
    c.conclude.ensures.answer

pub returns-clause-late : goal.returns-clause-late
returns-clause-late g c =
    let e = c.expand_source-expanded in
    let p = c.args.self.now in
    let w = world_of_parts e.new.dictionary e.new.store (g.K.Reader.meaning e.new.library) (take e.result.printed e.new.print) (take e.result.called e.new.called) in
    let w₀ = world_of_parts p.dictionary c.args.store.now (g.K.Reader.meaning c.args.library.now) [] [] in
    answered_late c.start-meter.result.bounds (tally c.start-meter.result) (expansion g.C.Code.meaning c.args.source.now w₀) e.result.outcome w e.new.scan c.conclude.new.scan (tally e.new.meter) _ _ _ c.conclude.result
    e.ensures.expands.came_to c.conclude.ensures.answer
