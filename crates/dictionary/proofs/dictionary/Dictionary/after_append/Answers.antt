use Rattle.std.proofs.Common.{◌∙◌, arith, length-append}
use Rattle.machine.specs.Dictionary.{string}
use Rattle.machine.specs.Strings.{appended}
use Rattle.dictionary.specs.Strings.{place_of, string_in}
use Rattle.dictionary.proofs.Said.{body_length}
use Rattle.dictionary.proofs.Taken.{row_taken}
use Rattle.dictionary.proofs.dictionary.Dictionary.after_append.Goals as goal

pub returns : goal.returns
returns c store name text whole first size =
    let d = c.args.self.now in
    let s = string_in c.args.string store in
    let taken = row_taken d store name (place_of c.args.string) (string (appended text s)) whole (record { first = first; at = c.requires }) in
    record {
      names = c.len.ensures ∙ taken.names;
      bytes = omega (arith, c.saturating_add.ensures, taken.bytes, length-append s.body text, body_length d store c.args.string whole c.requires);
    }
