use Rattle.std.proofs.Common.{◌∙◌, ap, take, drop, rules}
use Rattle.scan.proofs.Parts.{replaced}
use Rattle.scan.proofs.writing.write_part.Goals as goal

pub returns : goal.returns
returns g c =
    let outer = c.split_at_mut-text.ensures in
    let inner = c.split_at_mut-rest.ensures in
    (c.call.new.part, search rules, search rules, replaced c.args.area.now _ _ _ c.call.new.part c.args.front c.args.start c.args.n c.requires.within.0 outer.front (inner.front ∙ ap (take _) outer.back) (inner.back ∙ ap (drop _) outer.back))
