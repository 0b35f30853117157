use Rattle.std.proofs.Common.{[], refl, ap, ◌∙◌}
use Rattle.library.specs.Meaning.{Library, place}
use Rattle.image.specs.Opening.{image_library}
use Rattle.image_cases.proofs.host.find_and_clear.Goals as goal

pub returns : goal.returns
returns g c =
    let opened = c.in_ok-image.ensures.opened (image_library []) in
    record {
      refusal = opened.first_no;
      found = c.find_program-found.ensures.place ∙ ap (λ (l : Library). place c.args.name.now l.programs) (opened.held refl);
      cleared = c.fill.ensures.after (λ y e. e);
    }
