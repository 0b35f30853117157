use Rattle.std.proofs.Common.{◌*◌, length, take, rules}
use Rattle.std.specs.Str.{IsUtf8}
use Rattle.hex_text.proofs.Runs.{hexed_text}
use Rattle.hex_text.proofs.writing.write_few.Goals as goal

pub unwrap-requires : goal.unwrap-requires
unwrap-requires g c =
    let bytes = c.args.bytes.now in
    let text : IsUtf8 (take (2 * length bytes) c.put_digits.new.digits) = rw c.put_digits.ensures (hexed_text bytes (λ i. search rules)) in
    search (rules, text)
