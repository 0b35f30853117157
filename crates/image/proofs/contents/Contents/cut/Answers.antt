use Rattle.std.proofs.Common.{sym, rules}
use Rattle.std.proofs.lemmas.Slice.{between_to_end}
use Rattle.image.proofs.Granting.{is_cut}
use Rattle.image.proofs.contents.Contents.cut.Goals as goal

pub returns : goal.returns
returns g c =
    is_cut _ _ _ _ _ _ _ (search rules) (search rules) (sym c.from-count.ensures) (search (rules, between_to_end)) (search rules) (search rules)
    c.split_at.ensures.front c.split_at.ensures.back c.as_chunks.ensures.front
