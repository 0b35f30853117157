use Rattle.std.proofs.Common.{◌≡◌, ◌+◌, ℕ, List, ◌∷◌, drop, sym, ap, ◌∙◌}
use Rattle.std.specs.List.{prefix_len}
use Rattle.std.specs.Str.{bytes_eq}
use Rattle.library.specs.Meaning.{Program}
use Rattle.image.specs.Contents.{first_entry, program_of}
use Rattle.image.proofs.Programs.{same, next_program}
use Rattle.image.proofs.program.Programs.pass.Goals as goal

pub returns-clause-passed : goal.returns-clause-passed
returns-clause-passed c =
    let contents = c.args.self.now.image.contents in
    let i = c.args.self.now.start in
    let first = c.in-Some.first.now in
    let rest = c.in-Some.rest.now in
    let n = 1 + c.count_strings.result in
    let cut : drop i contents.entries.now ≡ first ∷ rest = sym c.split_at.ensures.back ∙ c.in-Some.ensures.cases.0 in
    let count : n ≡ 1 + prefix_len (same first) rest =
    ap (λ (k : ℕ). 1 + k) (c.count_strings.ensures.value ∙ ap (λ (name : List ℕ). prefix_len (λ r. bytes_eq (program_of (first_entry r)) name) rest) c.program-name.ensures) in
    sym (ap (λ (ps : List Program). drop 1 ps) (next_program contents.entries.now contents.texts.now i n first rest cut count))
