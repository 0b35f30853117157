use Rattle.asking.proofs.Alike.{alike_called, room_granted}
use Rattle.machine.specs.World.{Plan, calling}
use Rattle.plan.specs.Effects.{performed, asks_of}
use Rattle.world.specs.Standing.{world_in}
use Rattle.asking.proofs.asking.ask.Goals as goal

pub returns-clause-meets : goal.returns-clause-meets
returns-clause-meets g c n v =
    let w = calling n (world_in g.K.Reader c.args.world.now) in
    let p : Plan = record { value = v; after = performed g.C.Code.meaning c.args.parameters.now c.args.world.now.store.now c.args.effect w; asks = asks_of c.args.effect } in
    c.answer.ensures.meets w p (alike_called g.C.Code.meaning c.args.parameters.now c.args.world.now.store.now c.args.effect n (world_in g.K.Reader c.args.world.now))

pub returns-clause-room : goal.returns-clause-room
returns-clause-room g c =
    room_granted g.K.Reader c.args.world.now c.args.meter.now.bounds _ _ c.answer.result c.requires.ready c.answer.ensures.within
