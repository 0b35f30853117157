use Rattle.std.proofs.Common.{rules, tests, ◌≡◌, eqb, Bool, true, ◌&&◌, List, ℕ, get_or, take, drop, sym, ap, ◌∙◌}
use Rattle.std.specs.List.{list_all}
use Rattle.std.proofs.lemmas.Bool.{le-leb, and_from}
use Rattle.std.proofs.lemmas.List.{take_rest}
use Rattle.code.specs.Meaning.{within}
use Rattle.image.proofs.entry.Entry.is_well_named.Goals as goal

pub returns : goal.returns
returns c =
    let bytes = c.args.self.now.bytes.now in
    let n = get_or bytes 0 0 in
    let field = take 20 (drop 1 bytes) in
    let zeros = λ (xs : List ℕ). list_all (λ b. eqb b 0) xs in
    let fits : within 1 20 n ≡ true = and_from _ _ (le-leb 1 n (search (rules, tests))) (le-leb n 20 (search (rules, tests))) in
    c.all_zero.ensures ∙ ap zeros (take_rest field c.from-length.result) ∙ ap (λ (k : ℕ). zeros (drop k field)) c.from-length.ensures
    ∙ ap (λ (b : Bool). b && zeros (drop n field)) (sym fits)
