use Rattle.std.proofs.Common.{vec_items, sym, ◌∙◌}
use Rattle.shelf.proofs.Packed.{length_decoded}
use Rattle.shelf.proofs.reading.ShelfReader.programs.Goals as goal

pub returns : goal.returns
returns c =
    let s = c.args.self.now in
    c.len.ensures ∙ s.programs.ok.0
    ∙ sym (length_decoded (vec_items s.programs) (vec_items s.strings) (vec_items s.bytes))
