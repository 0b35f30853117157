use Rattle.std.proofs.Common.{◌≡◌, ◌++◌, OnOk, string_bytes, ◌∙◌, rules}
use Rattle.std.proofs.lemmas.Result.{IfOk-weaker}
use Rattle.library.specs.Locked.{lock_meaning}
use Rattle.image.specs.Granting.{meaning_of as image_meaning}
use Rattle.shelf.specs.Shelved.{meaning_of as shelf_meaning}
use Rattle.ttm_run.specs.Demonstration.{shown, heading, ShownBoth}
use Rattle.ttm_run.proofs.Shelving.{together}
use Rattle.ttm_run.proofs.demonstration.push_both.Goals as goal

pub returns : goal.returns
unfolding heading
returns c =
    let old = string_bytes c.args.out.now in
    let image = image_meaning c.args.image.now in
    let shelf = lock_meaning shelf_meaning c.args.shelf.now in
    let last = c.verdict-verdict.result.now in
    let all = together image shelf c.same_library.result old last c.verdict-verdict.ensures in
    let written : OnOk c.write.result (string_bytes c.write.new.self ≡ old ++ (shown image ++ (heading ++ (shown shelf ++ last)))) = search rules in
    let both : string_bytes c.write.new.self ≡ old ++ (shown image ++ (heading ++ (shown shelf ++ last))) → ShownBoth old image shelf (string_bytes c.write.new.self)
    = λ is. record { same = c.same_library.result; decides = c.same_library.ensures.same; is = is ∙ all } in
    IfOk-weaker _ _ _ (λ x. both) written
