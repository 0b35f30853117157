use Rattle.std.proofs.Common.{arith}
use Rattle.dictionary.specs.Strings.{place_of}
use Rattle.dictionary.proofs.Located.{spot}
use Rattle.dictionary.proofs.dictionary.Dictionary.body.Goals as goal

pub body-requires : goal.body-requires
body-requires c = let here = spot c.args.self.now (place_of c.args.string) c.requires.place in omega arith
