use Rattle.std.proofs.Common.{refl, rules, tests}
use Rattle.std.specs.Str.{bytes_eq}
use Rattle.std.proofs.lemmas.Iterator.{YieldsList-from_slice}
use Rattle.std.proofs.lemmas.Iterator.Consumers.{nth_from_yields_List}
use Rattle.std.proofs.lemmas.Iterator.Search.{YieldsList-from_take_while}
use Rattle.image.specs.Contents.{first_entry, program_of}
use Rattle.image.proofs.contents.string_entry.Goals as goal

pub returns : goal.returns
returns c =
    let name = c.args.name.now in
    nth_from_yields_List _ c.nth.new.self c.args.string c.nth.ensures.ran
    (YieldsList-from_take_while _ (λ r. bytes_eq (program_of (first_entry r)) name) (YieldsList-from_slice c.args.entries.now cc) refl (cc) (λ x b q k. search (rules, tests)))
