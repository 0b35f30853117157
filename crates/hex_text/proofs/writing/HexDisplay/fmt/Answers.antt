use Rattle.std.proofs.Common.{◌≡◌, ◌/◌, ◌++◌, length, take, rules}
use Rattle.std.proofs.Output.{has_written_append, has_written_of_eq}
use Rattle.std.proofs.lemmas.List.{take_all}
use Rattle.std.specs.List.{flat_map}
use Rattle.hex_text.specs.Hex.{hexed}
use Rattle.hex_text.proofs.Runs.{by_runs}
use Rattle.hex_text.proofs.writing.HexDisplay.fmt.Goals as goal

pub returns-clause-writes : goal.returns-clause-writes
returns-clause-writes g c = λ plain ok.
    let bytes = c.args.self.now.0.now in
    let runs = c.as_chunks.result.0.now in
    let whole : flat_map hexed (take c.loop-run.run-index runs) ++ hexed c.as_chunks.result.1.now ≡ hexed bytes =
    rw (take_all c.loop-run.run-index runs c.loop-run-test.false, c.as_chunks.ensures.front, c.as_chunks.ensures.back) (by_runs (length bytes / 32) bytes) in
    has_written_of_eq _ _ _ _ _ whole (has_written_append _ _ _ _ _ _ (c.loop-run.invariant plain) (search rules))
