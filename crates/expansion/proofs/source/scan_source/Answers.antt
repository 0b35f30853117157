use Rattle.std.proofs.Common.{◌≡◌, refl, ap, rules, length}
use Rattle.std.proofs.lemmas.Result.{err_from_is_err_and}
use Rattle.machine.specs.Scan.{at_start}
use Rattle.world.specs.Standing.{world_in}
use Rattle.scan.specs.Standing.{state_in}
use Rattle.expansion.proofs.FromScan.{begins_area, not_begun, cut_off, ended}
use Rattle.expansion.proofs.source.scan_source.Goals as goal

pub returns-in_err-put-clause-expands : goal.returns-in_err-put-clause-expands
returns-in_err-put-clause-expands g c =
    let p = err_from_is_err_and c.from_residual.result c.from_residual.ensures.1 in
    rw (p.1, p.2) (not_begun g.C.Code.meaning c.args.source.now _ (world_in g.K.Reader c.args.world.now) c.args.meter.now _ c.put.new.self _ c.in_err-put.ensures)

pub returns-in_err-scan_text-clause-expands : goal.returns-in_err-scan_text-clause-expands
returns-in_err-scan_text-clause-expands g c =
    let p = err_from_is_err_and c.from_residual-in_err-scan_text.result c.from_residual-in_err-scan_text.ensures.1 in
    let w = world_in g.K.Reader c.args.world.now in
    let start : state_in c.load-texts.result c.clear.new.self w ≡ at_start c.args.source.now w = rw (c.load-texts.ensures.left, c.load-texts.ensures.right, c.clear.ensures.entries) refl in
    rw (p.1, p.2) (cut_off g.C.Code.meaning c.args.source.now _ _ c.args.meter.now _ c.put.new.self c.scan_text.new.meter (state_in c.scan_text.new.texts c.scan_text.new.roll (world_in g.K.Reader c.scan_text.new.world)) c.in_ok-put.ensures c.in_err-scan_text.field-0.0
    (rw (← start, ← c.in_err-scan_text.was) c.scan_text.ensures.goes.meets))

pub returns-clause-expands : goal.returns-clause-expands
returns-clause-expands g c =
    let w = world_in g.K.Reader c.args.world.now in
    let start : state_in c.load-texts.result c.clear.new.self w ≡ at_start c.args.source.now w = rw (c.load-texts.ensures.left, c.load-texts.ensures.right, c.clear.ensures.entries) refl in
    ended g.C.Code.meaning c.args.source.now _ _ c.args.meter.now _ c.put.new.self c.scan_text.new.meter (state_in c.scan_text.new.texts c.scan_text.new.roll (world_in g.K.Reader c.scan_text.new.world)) c.in_ok-put.ensures
    (length c.left.result.now) refl (search (rules, begins_area)) (ap length c.left.ensures)
    (rw (← start, ← c.in_ok-scan_text.was) c.scan_text.ensures.goes.meets)
