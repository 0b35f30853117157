use Rattle.std.proofs.Common.{◌∙◌, ap, sym, length}
use Rattle.std.proofs.lemmas.List.FromFn.{length-map-range_with_len}
use Rattle.machine.specs.Scan.{field}
use Rattle.scan.proofs.parameters.Parameters.len.Goals as goal

pub returns : goal.returns
returns c =
    let p = c.self.inside in
    sym (length-map-range_with_len (field p.entries.now p.left.now) 0 (length p.entries.now)) ∙ ap length c.self.view_is
