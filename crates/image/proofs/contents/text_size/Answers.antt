use Rattle.std.proofs.Common.{rules, ◌≡◌, ◌∙◌}
use Rattle.std.specs.List.{sum_by}
use Rattle.image.specs.Contents.{first_entry, text_size}
use Rattle.image.proofs.Rows.{text_sizes-rows}
use Rattle.image.proofs.contents.text_size.Goals as goal

pub returns : goal.returns
returns c =
    let sum : c.sum.result ≡ sum_by (λ r. text_size (first_entry r)) c.args.entries.now = search rules in
    sum ∙ text_sizes-rows c.args.entries.now
