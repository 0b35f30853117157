use Rattle.std.proofs.Common.{arith, ◌∙◌}
use Rattle.world.specs.Standing.{world_in}
use Rattle.calls.proofs.Made.{name_fits, goes_refused}
use Rattle.calls.proofs.making.make_call.Goals as goal

pub keep_name-requires : goal.keep_name-requires
keep_name-requires g c =
    let w = world_in g.K.Reader c.args.world.now in
    rw (c.name-name.ensures w)
    (omega (arith, name_fits c.make-made.new.texts c.make-made.new.roll w, c.make-made.ensures.ends.same_area.same_size, c.requires.fits.area_fits, c.requires.ready.ready.called, c.make-made.ensures.memory.called))

pub returns-in-Err-clause-goes : goal.returns-in-Err-clause-goes
returns-in-Err-clause-goes g c =
    let w = world_in g.K.Reader c.args.world.now in
    rw c.in-Err.is (goes_refused g.K.Reader g.C.Code.meaning c.args.world.now c.make-made.new.world c.args.texts.now c.make-made.new.texts c.args.roll.now c.make-made.new.roll c.args.meter.now c.make-made.new.meter _ _ (c.keep_name.ensures.kept ∙ c.name-name.ensures w) c.in-Err.ensures.ends)
