use Rattle.std.proofs.Common.{◌≡◌, ◌++◌, length, take, drop, map}
use Rattle.value.proofs.writing.write_lowered.Given as goal

abbrev pub invariant-loop-byte : goal.invariant-loop-byte
invariant-loop-byte g l = (length l.out ≡ length l.text) × (take l.byte-index l.out ++ map g.C.Code.meaning.lower (drop l.byte-index l.out) ≡ map g.C.Code.meaning.lower l.text)
