use Rattle.std.proofs.Common.{◌≡◌, ◌+◌, ◌++◌, map, length, vec_items, vec_len, vec_capacity}
use Rattle.std.specs.List.{flat_map}
use Rattle.library.specs.Keeping.{strings_bytes}
use Rattle.library.specs.Iterators.{strings_left}
use Rattle.shelf.specs.Adding.{row_of, bytes_of}
use Rattle.shelf.proofs.adding.add_strings.Given as goal

abbrev pub invariant-loop-text : goal.invariant-loop-text
invariant-loop-text g l =
    (vec_items l.rows ++ map row_of (strings_left l.text-iterator) ≡ vec_items l.initial.rows ++ map row_of (g.S.Source.strings l.strings))
    × (vec_items l.bytes ++ flat_map bytes_of (strings_left l.text-iterator) ≡ vec_items l.initial.bytes ++ flat_map bytes_of (g.S.Source.strings l.strings))
    × (vec_len l.rows + length (strings_left l.text-iterator) ≡ vec_len l.initial.rows + length (g.S.Source.strings l.strings))
    × (vec_len l.bytes + strings_bytes (strings_left l.text-iterator) ≡ vec_len l.initial.bytes + strings_bytes (g.S.Source.strings l.strings))
    × (vec_capacity l.rows ≡ vec_capacity l.initial.rows)
    × (vec_capacity l.bytes ≡ vec_capacity l.initial.bytes)
