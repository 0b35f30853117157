use Rattle.std.proofs.Common.{[], length, refl, ap, ◌∙◌}
use Rattle.std.proofs.lemmas.Result.{IfOk-weaker}
use Rattle.library.specs.Meaning.{Library, string_count}
use Rattle.image.specs.Opening.{programs_of, image_library}
use Rattle.image_cases.proofs.Counting.{granted}
use Rattle.image_cases.proofs.answer.answer.Goals as goal

pub returns-in-Ok : goal.returns-in-Ok
returns-in-Ok g c =
    let opened = c.in-Ok.ensures.opened (image_library []) in
    let held = opened.held refl in
    let programs = c.programs-programs.ensures ∙ ap (λ (l : Library). length l.programs) held in
    let strings = c.count_strings-strings.ensures ∙ ap (λ (l : Library). string_count l.programs) held in
    IfOk-weaker _ _ _ (λ text. granted _ (programs_of c.args.bytes.now) _ _ _ opened.first_no programs strings) c.format.ensures.ok
