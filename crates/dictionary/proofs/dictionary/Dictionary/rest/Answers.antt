use Rattle.std.proofs.Common.{arith}
use Rattle.dictionary.specs.Strings.{place_of}
use Rattle.dictionary.proofs.Located.{spot}
use Rattle.dictionary.proofs.dictionary.Dictionary.rest.Goals as goal

pub rest-requires : goal.rest-requires
rest-requires c = let here = spot c.args.self.now (place_of c.args.string) c.requires.place in omega arith
