use Rattle.std.proofs.Common.{rules, ◌≡◌, ℕ, length, Some, None, Option, sym, ap, refl, ◌∙◌}
use Rattle.std.specs.Option.{option_map}
use Rattle.library.specs.Meaning.{Program}
use Rattle.shelf.specs.declared.views.ProgramView.{ProgramView}
use Rattle.shelf.specs.Places.{program_viewed}
use Rattle.shelf.proofs.Packed.{length_strings}
use Rattle.shelf.proofs.reading.ShelfReader.strings.Goals as goal

-- a program has as many strings as its view has rows
rows_viewed : (v : Option ProgramView) → option_map (λ (v : ProgramView). length v.rows.now) v ≡ option_map (λ (p : Program). length p.strings) (option_map program_viewed v)
rows_viewed None = refl
rows_viewed (Some v) = ap (λ (n : ℕ). Some n) (sym (length_strings v.rows.now v.texts.now))

pub returns : goal.returns
returns c =
    let counted : c.map.result ≡ option_map (λ (v : ProgramView). length v.rows.now) c.view.result = search rules in
    counted ∙ rows_viewed c.view.result ∙ ap (option_map (λ (p : Program). length p.strings)) c.view.ensures
