use Rattle.std.proofs.Common.{◌≡◌, ℕ, List, Some, drop, sym, ap, ◌∙◌, arith}
use Rattle.std.specs.Option.{option_map}
use Rattle.library.specs.Views.{string_viewed}
use Rattle.image.specs.Lines.{Line}
use Rattle.image.specs.Contents.{first_entry, entries_of_rows, line_at, text_sizes}
use Rattle.image.specs.Programs.{texts_behind}
use Rattle.image.proofs.Programs.{string_past, string_found, place_found}
use Rattle.image.proofs.program.Programs.first_string.Goals as goal

pub returns-in_err-bytes : goal.returns-in_err-bytes
returns-in_err-bytes c =
    let contents = c.args.self.now.image.contents in
    ap (option_map string_viewed) c.from_residual-in_err-bytes.ensures
    ∙ sym (string_past contents.entries.now contents.texts.now c.args.self.now.start _ c.in_ok-name.name.now c.args.string c.split_at.ensures.back c.in_ok-name.ensures c.in_err-bytes.ensures)

pub overflow_add-self : goal.overflow_add-self
overflow_add-self c =
    let contents = c.args.self.now.image.contents in
    let place = place_found contents.entries.now contents.texts.now c.args.self.now.start _ c.in_ok-name.name.now c.args.string c.split_at.ensures.back _ c.in_ok-bytes.ensures in
    omega (arith, place.0, contents.few)

pub split_at-requires-2 : goal.split_at-requires-2
split_at-requires-2 c =
    let contents = c.args.self.now.image.contents in
    let place = place_found contents.entries.now contents.texts.now c.args.self.now.start _ c.in_ok-name.name.now c.args.string c.split_at.ensures.back _ c.in_ok-bytes.ensures in
    omega (arith, place.0)

pub split_at-requires-3 : goal.split_at-requires-3
split_at-requires-3 c =
    let contents = c.args.self.now.image.contents in
    let place = place_found contents.entries.now contents.texts.now c.args.self.now.start _ c.in_ok-name.name.now c.args.string c.split_at.ensures.back _ c.in_ok-bytes.ensures in
    let size = ap (λ (xs : List (List ℕ)). text_sizes (entries_of_rows xs)) c.split_at-2.ensures.front in
    omega (arith, place.1, size, c.text_size.ensures, c.args.self.now.image.filled)

pub split-requires : goal.split-requires
split-requires c =
    let contents = c.args.self.now.image.contents in
    let place = place_found contents.entries.now contents.texts.now c.args.self.now.start _ c.in_ok-name.name.now c.args.string c.split_at.ensures.back _ c.in_ok-bytes.ensures in
    let size = ap (λ (xs : List (List ℕ)). text_sizes (entries_of_rows xs)) c.split_at-2.ensures.front in
    omega (arith, place.1, size, c.text_size.ensures, c.split_at-3.ensures.back_len, c.args.self.now.image.filled)

cut_at : (ts vs : List ℕ) (n m : ℕ) → vs ≡ drop n ts → n ≡ m → vs ≡ drop m ts
cut_at ts vs n m e h = e ∙ ap (λ (k : ℕ). drop k ts) h

pub returns : goal.returns
returns c =
    let contents = c.args.self.now.image.contents in
    let rows = contents.entries.now in
    let i = c.args.self.now.start in
    let e = first_entry c.in_ok-bytes.bytes.now in
    let texts : c.split_at-3.result.1.now ≡ texts_behind c.split_at-2.result.0.now contents.texts.now =
    cut_at contents.texts.now _ _ _ c.split_at-3.ensures.back (omega (arith, c.text_size.ensures)) in
    ap (λ (l : Line). Some l.string)
    (c.split.ensures.line ∙ ap (line_at e) (texts ∙ ap (λ (xs : List (List ℕ)). texts_behind xs contents.texts.now) c.split_at-2.ensures.front))
    ∙ sym (string_found rows contents.texts.now i _ c.in_ok-name.name.now c.args.string c.split_at.ensures.back c.in_ok-name.ensures _ c.in_ok-bytes.ensures)
