use Rattle.std.proofs.Common.{◌≡◌, ◌<◌, ◌^◌, drop}
use Rattle.std.specs.Option.{option_map}
use Rattle.machine.specs.Numbers.{digits_from}
use Rattle.number.specs.Numerals.{capped}
use Rattle.number.proofs.reading.read_digits.Given as goal

abbrev pub invariant-loop-byte : goal.invariant-loop-byte
invariant-loop-byte g l =
    (l.value < 2 ^ 64)
    × (option_map capped (digits_from g.C.Code.meaning l.value (drop l.byte-index l.text)) ≡ option_map capped (digits_from g.C.Code.meaning 0 l.text))
