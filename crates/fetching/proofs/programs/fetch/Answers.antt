use Rattle.machine.specs.World.{calling}
use Rattle.world.specs.Standing.{world_in}
use Rattle.fetching.proofs.programs.fetch.Goals as goal

pub returns-in-Some-clause-meets : goal.returns-in-Some-clause-meets
returns-in-Some-clause-meets g c n = rw (← c.in-Some.ensures.shows) (c.define_strings.ensures.meets (calling n (world_in g.K.Reader c.args.world.now)))
