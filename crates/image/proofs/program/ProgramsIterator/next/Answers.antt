use Rattle.std.proofs.Common.{◌≡◌, ◌+◌, ℕ, List, ◌∷◌, length, take, drop, sym, ap, ◌∙◌, arith}
use Rattle.std.specs.List.{prefix_len}
use Rattle.std.specs.Str.{bytes_eq}
use Rattle.library.specs.Meaning.{Program}
use Rattle.image.specs.Contents.{first_entry, entries_of_rows, program_of, text_sizes, lines, strings_of, programs_of_rows}
use Rattle.image.specs.Programs.{texts_behind}
use Rattle.image.proofs.Programs.{same, next_program, sizes_within}
use Rattle.image.proofs.program.ProgramsIterator.next.Goals as goal

pub invariant_of-result : goal.invariant_of-result
invariant_of-result c =
    let rows = c.args.self.now.image.contents.entries.now in
    let i = c.args.self.now.start in
    let n = 1 + c.count_strings.result in
    let size : List (List ℕ) → ℕ = λ xs. text_sizes (entries_of_rows xs) in
    let before : size c.split_at.result.0.now ≡ size (take i rows) = ap size c.split_at.ensures.front in
    let own : size c.split_at-2.result.0.now ≡ size (take n (drop i rows)) =
    ap size c.split_at-2.ensures.front ∙ ap (λ (xs : List (List ℕ)). size (take n xs)) c.split_at.ensures.back in
    record {
      few = omega (arith, c.args.self.now.image.contents.few, c.split_at.ensures.front_len, c.split_at.ensures.back_len, c.split_at-2.ensures.front_len, c.split_at-2.ensures.back_len);
      there = omega (arith, sizes_within rows i n, before, own, c.args.self.now.image.filled);
    }

pub returns-clause-steps : goal.returns-clause-steps
returns-clause-steps c =
    let rows = c.args.self.now.image.contents.entries.now in
    let ts = c.args.self.now.image.contents.texts.now in
    let i = c.args.self.now.start in
    let first = c.in_ok-first.first.now in
    let rest = c.in_ok-first.rest.now in
    let own = c.split_at-2.result.0.now in
    let n = length own in
    let others = programs_of_rows (drop (i + n) rows) (texts_behind (take (i + n) rows) ts) in
    let cut : drop i rows ≡ first ∷ rest = sym c.split_at.ensures.back ∙ c.in_ok-first.ensures.cases.0 in
    let mine : own ≡ take n (drop i rows) =
    c.split_at-2.ensures.front ∙ ap (λ (xs : List (List ℕ)). take (1 + c.count_strings.result) xs) c.split_at.ensures.back
    ∙ ap (λ (k : ℕ). take k (drop i rows)) (sym c.split_at-2.ensures.front_len) in
    let count : n ≡ 1 + prefix_len (same first) rest =
    c.split_at-2.ensures.front_len
    ∙ ap (λ (k : ℕ). 1 + k) (c.count_strings.ensures.value ∙ ap (λ (name : List ℕ). prefix_len (λ r. bytes_eq (program_of (first_entry r)) name) rest) c.program-name.ensures) in
    let view : List ℕ → List (List ℕ) → List (List ℕ) → Program = λ name before xs. record { name = name; strings = strings_of (lines (entries_of_rows xs) (texts_behind before ts)) } in
    next_program rows ts i n first rest cut count
    ∙ ap (λ (name : List ℕ). view name (take i rows) (take n (drop i rows)) ∷ others) (sym c.program-name.ensures)
    ∙ ap (λ (before : List (List ℕ)). view c.program-name.result.now before (take n (drop i rows)) ∷ others) (sym c.split_at.ensures.front)
    ∙ ap (λ (xs : List (List ℕ)). view c.program-name.result.now c.split_at.result.0.now xs ∷ others) (sym mine)
