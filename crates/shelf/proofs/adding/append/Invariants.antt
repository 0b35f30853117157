use Rattle.std.proofs.Common.{◌≡◌, ◌+◌, ◌++◌, take, vec_items, vec_len, vec_capacity}
use Rattle.shelf.proofs.adding.append.Given as goal

abbrev pub invariant-loop-byte : goal.invariant-loop-byte
invariant-loop-byte l =
    (vec_items l.bytes ≡ vec_items l.initial.bytes ++ take l.byte-index l.more)
    × (vec_len l.bytes ≡ vec_len l.initial.bytes + l.byte-index)
    × (vec_capacity l.bytes ≡ vec_capacity l.initial.bytes)
