-- A world, where a fact about all worlds is taken at one. Assumes nothing.
use Rattle.std.proofs.Common.{[], true, false}
use Rattle.machine.specs.World.{World}

pub some_world : World
some_world = record {
  dictionary = record { originals = λ f. true; rows = []; classes = [] };
  library = record { programs = []; space = record { programs = 0; strings = 0; bytes = 0 }; locked = false };
  printed = [];
  called = [];
}
