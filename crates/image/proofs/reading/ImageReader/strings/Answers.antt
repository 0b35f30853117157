use Rattle.std.proofs.Common.{ℕ, Some, length, sym, ap, ◌∙◌}
use Rattle.std.specs.Option.{option_map}
use Rattle.library.specs.Meaning.{Program}
use Rattle.image.specs.Programs.{texts_behind}
use Rattle.image.proofs.Programs.{length_strings}
use Rattle.image.proofs.reading.ImageReader.strings.Goals as goal

pub returns : goal.returns
returns c =
    let view = c.in_ok-program.program in
    ap (λ (k : ℕ). Some k) (sym (length_strings view.entries.now (texts_behind view.before.now view.texts.now)))
    ∙ ap (option_map (λ (p : Program). length p.strings)) c.in_ok-program.ensures
