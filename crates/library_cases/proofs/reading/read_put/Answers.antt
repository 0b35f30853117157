use Rattle.std.proofs.Common.{◌≡◌, ℕ, ◌<◌, List, [], ◌∷◌, length, None, refl, sym, arith, Bor}
use Rattle.library_cases.specs.Words.{texts}
use Rattle.library_cases.specs.Commands.{put_in}
use Rattle.library_cases.proofs.reading.read_put.Goals as goal

too_few : (ws : List (Bor (List ℕ))) → length ws < 2 → put_in (texts ws) ≡ None
too_few [] h = refl
too_few (w ∷ []) h = refl
too_few (w ∷ v ∷ ws) h = absurd (omega arith)

pub returns-in_default : goal.returns-in_default
returns-in_default c = sym (too_few c.args.words.now c.in_default.len_below)
