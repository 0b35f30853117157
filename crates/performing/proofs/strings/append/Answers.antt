use Rattle.machine.specs.World.{p2}
use Rattle.performing.proofs.Rooms.{more_fits}
use Rattle.performing.proofs.strings.append.Goals as goal

pub append-requires-clause-fits : goal.append-requires-clause-fits
append-requires-clause-fits g c =
    let w = c.args.world.now in
    rw c.get.ensures (more_fits w.dictionary.now w.store.now _ (p2 c.args.parameters.now) c.args.string w.whole c.requires.place c.requires.room)
