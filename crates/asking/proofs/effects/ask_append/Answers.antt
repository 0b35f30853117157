use Rattle.std.proofs.Common.{length, sym, ap}
use Rattle.machine.specs.World.{p1, p2}
use Rattle.asking.proofs.effects.ask_append.Goals as goal

pub returns : goal.returns
returns g c v is =
    let w = c.args.world.now in
    let ps = c.args.parameters.now in
    c.ask_names_and_store.ensures v
    (rw is (c.after_append-needs.ensures w.store.now (p1 ps) (p2 ps) w.whole c.requires.place.first (sym (ap length c.get-more.ensures))))
