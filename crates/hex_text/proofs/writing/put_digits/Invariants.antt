use Rattle.std.proofs.Common.{◌≡◌, ◌*◌, take}
use Rattle.hex_text.specs.Hex.{hexed}
use Rattle.hex_text.proofs.writing.put_digits.Given as goal

abbrev pub invariant-loop-at : goal.invariant-loop-at
invariant-loop-at l = take (2 * l.at) l.digits ≡ hexed (take l.at l.bytes)
