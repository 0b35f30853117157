use Rattle.std.proofs.Common.{◌≡◌, rules}
use Rattle.std.specs.Option.{option_map}
use Rattle.dictionary.specs.declared.meaning.Meaning.TheVariants as found
use Rattle.dictionary.proofs.Looked.{row_looked_up, original_looked_up}
use Rattle.dictionary.proofs.dictionary.Dictionary.look_up.Goals as goal

pub returns-in-Some-clause-meaning : goal.returns-in-Some-clause-meaning
returns-in-Some-clause-meaning g c =
    row_looked_up g.C.Code.meaning c.args.self.now c.args.store.now c.args.name.now c.in-Some.place c.meaning.result c.requires c.in-Some.ensures c.meaning.ensures

pub returns-in-None-clause-meaning : goal.returns-in-None-clause-meaning
returns-in-None-clause-meaning g c =
    let mapped : c.map.result ≡ option_map found.BuiltIn c.original.result = search rules in
    original_looked_up g.C.Code.meaning c.args.self.now c.args.store.now c.args.name.now c.map.result c.original.result c.in-None.ensures c.original.ensures mapped
