use Rattle.std.proofs.Common.{◌≡◌, vec_items}
use Rattle.hex_text.proofs.Pairs.{unhexed_pairs, from_pair}
use Rattle.hex_text.proofs.reading.unhex.Given as goal

abbrev pub invariant-loop-high : goal.invariant-loop-high
invariant-loop-high l = from_pair (vec_items l.bytes) l.pairs l.high-index ≡ unhexed_pairs l.pairs
