use Rattle.std.proofs.Common.{◌≡◌, map, length}
use Rattle.image.specs.Contents.{entries_of_rows, program_of}
use Rattle.image.specs.Questions.{adjacent}
use Rattle.image.proofs.contents.are_adjacent.Given as goal

abbrev pub invariant-loop-first : goal.invariant-loop-first
invariant-loop-first l = adjacent (map program_of (entries_of_rows l.left)) ≡ adjacent (map program_of (entries_of_rows l.entries))

abbrev pub decreases-loop-first : goal.decreases-loop-first
decreases-loop-first l = length l.left
