use Rattle.std.proofs.Common.{◌≡◌, ◌+◌}
use Rattle.library.specs.Keeping.{strings_bytes}
use Rattle.library.specs.Iterators.{strings_left}
use Rattle.shelf.proofs.adding.room_after.Given as goal

abbrev pub invariant-loop-text : goal.invariant-loop-text
invariant-loop-text g l = l.left + strings_bytes (g.S.Source.strings l.strings) ≡ l.room + strings_bytes (strings_left l.text-iterator)
