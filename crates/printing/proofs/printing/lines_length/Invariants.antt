use Rattle.std.specs.Option.{option_copied}
use Rattle.machine.specs.Functions.{lines}
use Rattle.value.proofs.Caps.{Counted}
use Rattle.printing.specs.Left.{lines_left}
use Rattle.printing.proofs.Pieces.{pieces_left}
use Rattle.printing.proofs.printing.lines_length.Given as goal

abbrev pub invariant-loop-left : goal.invariant-loop-left
invariant-loop-left l = Counted l.len (lines_left l.end_of_line (option_copied l.left)) (lines l.end_of_line 132 l.text)

abbrev pub decreases-loop-left : goal.decreases-loop-left
decreases-loop-left l = pieces_left (option_copied l.left)
