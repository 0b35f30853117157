use Rattle.std.proofs.Common.{rules, tests, ap, ◌∙◌}
use Rattle.std.specs.Option.{option_map}
use Rattle.built_ins.specs.declared.table.BuiltInEntry.{BuiltInEntry}
use Rattle.std.proofs.lemmas.Iterator.{YieldsList-from_slice}
use Rattle.std.proofs.lemmas.Iterator.Search.{find_from_yields_List}
use Rattle.built_ins.proofs.Spelled.{is_named, named_is, mapped_is}
use Rattle.built_ins.proofs.naming.find_built_in.Goals as goal

pub returns : goal.returns
returns g c =
    let found = find_from_yields_List (is_named g.C.Code.meaning c.args.name.now) c.find.new.self _ c.find.result c.find.ensures.ran
    (YieldsList-from_slice c.built_ins.result.now c.iter.ensures.rest) (λ x b q k. search (rules, tests)) in
    let by_list = named_is g.C.Code.meaning c.args.name.now c.built_ins.result.now c.built_ins.ensures in
    mapped_is (λ e. e.now) c.find.result c.map.result _ c.map.ensures.cases (λ x f h. search (rules, tests))
    ∙ ap (option_map (λ (e : BuiltInEntry). e.function)) found ∙ by_list
