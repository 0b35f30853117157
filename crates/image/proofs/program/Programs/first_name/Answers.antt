use Rattle.std.proofs.Common.{ℕ, List, Some, sym, ap, ◌∙◌}
use Rattle.std.specs.Option.{option_map}
use Rattle.library.specs.Meaning.{Program}
use Rattle.image.proofs.Programs.{at_place, first_program}
use Rattle.image.proofs.program.Programs.first_name.Goals as goal

pub returns : goal.returns
returns c =
    let contents = c.args.self.now.image.contents in
    let rows = contents.entries.now in
    let i = c.args.self.now.start in
    let r = c.in_ok-bytes.bytes.now in
    let left = c.split_at.result.1.now in
    ap (λ (n : List ℕ). Some n) c.program.ensures
    ∙ sym (ap (option_map (λ (p : Program). p.name)) (first_program rows contents.texts.now i r _ (sym c.split_at.ensures.back ∙ at_place left 0 r (sym c.in_ok-bytes.ensures.value))))
