use Rattle.std.proofs.Common.{[], refl, ap, ◌∙◌, arith}
use Rattle.std.specs.Prelude.{◌+◌}
use Rattle.dictionary.specs.Meant.{text_in, classes_in}
use Rattle.dictionary.specs.Strings.{place_of, string_in}
use Rattle.dictionary.proofs.Changed.{body_changed, same_size}
use Rattle.dictionary.specs.Meant.{stands}
use Rattle.dictionary.proofs.Meant.{parts}
use Rattle.dictionary.proofs.Said.{row_said, body_length, meaning_pointed, nothing_spliced}
use Rattle.dictionary.proofs.dictionary.Dictionary.set_pointer.Goals as goal

pub invariant_of-self : goal.invariant_of-self
invariant_of-self c =
    let d = c.args.self.now in
    record {
      rows_reserved = d.rows_reserved;
      classes_reserved = d.classes_reserved;
      rows_bounded = d.rows_bounded;
      classes_bounded = d.classes_bounded;
      rows_filled = same_size d (place_of c.args.string) _ c.requires.place refl;
      classes_filled = d.classes_filled;
    }

pub returns-clause-meaning : goal.returns-clause-meaning
returns-clause-meaning c store name whole first =
    let d = c.args.self.now in
    let s = c.args.string in
    let start = s.start + s.name + 0 in
    let after = body_changed d store (place_of s) _ 0 0 _ d.row_bytes (text_in d store) [] whole c.requires.place (omega arith) (omega arith) refl refl (nothing_spliced (text_in d store) start) refl in
    ap (λ rows. parts (stands d.originals) rows (classes_in d store))
    (after.rows_are
    ∙ row_said d store name s _ (record { body = (string_in s store).body; pointer = c.args.pointer }) whole c.requires.place first
    (meaning_pointed (string_in s store).body s.extent.length c.args.pointer (body_length d store s whole c.requires.place)))
