use Rattle.std.proofs.Common.{Bool, List, Bor, sym, ap, ◌∙◌}
use Rattle.std.specs.Option.{option_map}
use Rattle.dictionary.specs.Meant.{classes_in}
use Rattle.dictionary.proofs.Firsts.{in_classes_none}
use Rattle.dictionary.proofs.ClassRows.{class_there}
use Rattle.dictionary.proofs.dictionary.Dictionary.class.Goals as goal

pub returns-in_err-place : goal.returns-in_err-place
returns-in_err-place c =
    ap (option_map (λ (b : Bor (List Bool)). b.now)) c.from_residual.ensures
    ∙ sym (in_classes_none c.args.name.now (classes_in c.args.self.now c.args.store.now) c.in_err-place.ensures)

pub index-requires : goal.index-requires
index-requires c = (class_there c.args.self.now c.args.store.now c.args.name.now c.in_ok-place.place c.requires c.in_ok-place.ensures).index

pub returns : goal.returns
returns c = (class_there c.args.self.now c.args.store.now c.args.name.now c.in_ok-place.place c.requires c.in_ok-place.ensures).members c.index.result.now c.index.ensures
