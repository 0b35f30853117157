use Rattle.std.proofs.Common.{◌∙◌}
use Rattle.printing.proofs.Pieces.{lines-cut, cut_parts}
use Rattle.printing.proofs.cutting.cut_off.Goals as goal

pub returns-clause-lines : goal.returns-clause-lines
returns-clause-lines c =
    lines-cut c.args.end_of_line 132 c.args.text.now
    ∙ cut_parts c.args.end_of_line c.args.text.now c.piece_length.ensures.place c.split_at.ensures.front c.split_at.ensures.back c.behind_piece.ensures
