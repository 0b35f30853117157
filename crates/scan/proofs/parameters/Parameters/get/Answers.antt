use Rattle.std.proofs.Common.{◌∙◌, ap, sym, length, [], arith}
use Rattle.std.proofs.lemmas.List.{get_or_past}
use Rattle.std.proofs.lemmas.List.FromFn.{length-map-range_with_len, get_or-map-range_with_len}
use Rattle.machine.specs.Scan.{field}
use Rattle.machine.specs.World.{parameter}
use Rattle.scan.proofs.parameters.Parameters.get.Goals as goal

pub returns-then-n-self : goal.returns-then-n-self
returns-then-n-self c =
    let p = c.self.inside in
    c.field.ensures
    ∙ sym (get_or-map-range_with_len (field p.entries.now p.left.now) 0 (length p.entries.now) c.args.n c.args.n [] c.if-n-self.true (omega arith))
    ∙ ap (parameter c.args.n) c.self.view_is

pub returns-else-n-self : goal.returns-else-n-self
returns-else-n-self c =
    let p = c.self.inside in
    let size = length-map-range_with_len (field p.entries.now p.left.now) 0 (length p.entries.now) in
    sym (get_or_past _ c.args.n [] (omega (arith, size, c.if-n-self.false))) ∙ ap (parameter c.args.n) c.self.view_is
