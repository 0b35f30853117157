use Rattle.std.proofs.Common.{◌≡◌, ℕ, List, ◌+◌, ◌-◌, drop, ap, ◌∙◌, arith}
use Rattle.std.proofs.lemmas.List.{drop-drop}
use Rattle.library.specs.Meaning.{Program}
use Rattle.image.specs.Programs.{programs_left}
use Rattle.image.proofs.granted.Image.programs_from.Goals as goal

pub loop-preserved : goal.loop-preserved
loop-preserved c =
    let n = c.args.program - (c.loop.counter + 1) in
    let left : 1 + n ≡ c.args.program - c.loop.counter = omega arith in
    ap (λ (ps : List Program). drop n ps) c.pass.ensures.passed ∙ drop-drop n 1 (programs_left c.loop.programs) ∙ ap (λ (m : ℕ). drop m (programs_left c.loop.programs)) left ∙ c.loop.invariant
