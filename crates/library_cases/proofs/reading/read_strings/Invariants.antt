use Rattle.std.proofs.Common.{◌≡◌, map, vec_items}
use Rattle.library_cases.specs.Handed.{named}
use Rattle.library_cases.proofs.Pairs.{strings_in_pairs, from_pair}
use Rattle.library_cases.proofs.reading.read_strings.Given as goal

abbrev pub invariant-loop-name : goal.invariant-loop-name
invariant-loop-name l = from_pair (map named (vec_items l.texts)) l.pairs l.name-index ≡ strings_in_pairs l.pairs
