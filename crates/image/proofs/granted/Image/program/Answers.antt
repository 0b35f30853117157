use Rattle.std.proofs.Common.{List, ap, ◌∙◌}
use Rattle.std.specs.List.{slice_get}
use Rattle.library.specs.Meaning.{Program}
use Rattle.image.specs.Granting.{programs_held}
use Rattle.image.specs.Programs.{program_viewed, programs_left}
use Rattle.image.proofs.Programs.{first_yielded, first_behind}
use Rattle.image.proofs.granted.Image.program.Goals as goal

pub returns : goal.returns
returns c =
    first_yielded program_viewed programs_left c.next.result c.programs_from.result c.next.new.self c.next.ensures.steps
    ∙ ap (λ (ps : List Program). slice_get ps 0) c.programs_from.ensures
    ∙ first_behind c.args.program (programs_held c.args.self.now)
