use Rattle.std.proofs.Common.{◌≡◌, ◌+◌, ◌-◌, length, take, drop, sym, ap, refl, ◌∙◌, arith}
use Rattle.std.specs.Option.{option_map}
use Rattle.std.proofs.lemmas.List.{length-take-le, length-drop, take_rest}
use Rattle.std.proofs.lemmas.List.Sums.{sum_by-take-le}
use Rattle.library.specs.Views.{string_viewed}
use Rattle.shelf.proofs.Packed.{row_text, nth_strings, string_read}
use Rattle.shelf.proofs.Totals.{read_there, read_past, sum_next}
use Rattle.shelf.proofs.views.ProgramView.string.Goals as goal

pub returns-in_err-row : goal.returns-in_err-row
returns-in_err-row c =
    let v = c.args.self.now in
    let past = read_past v.rows.now v.rows.now c.args.string refl c.in_err-row.ensures.lookup in
    ap (option_map string_viewed) c.from_residual.ensures
    ∙ sym (nth_strings c.args.string v.rows.now v.texts.now ∙ ap (option_map _) past)

pub slice_bounds-result-end : goal.slice_bounds-result-end
slice_bounds-result-end c =
    let v = c.args.self.now in
    let there = read_there v.rows.now v.rows.now c.args.string c.in_ok-row.row refl c.in_ok-row.ensures.lookup in
    let next = sum_next row_text v.rows.now c.args.string c.in_ok-row.row.now there in
    let within = sum_by-take-le row_text v.rows.now (c.args.string + 1) in
    let left : length (take (length v.texts.now - c.text_size-start.result) (drop c.text_size-start.result v.texts.now)) ≡ length v.texts.now - c.text_size-start.result =
    ap length (take_rest v.texts.now c.text_size-start.result) ∙ length-drop c.text_size-start.result v.texts.now in
    sym (length-take-le c.in_ok-row.row.now.body c.split_at.result.1.now (omega (arith, c.split_at.ensures.back_len)))

pub returns : goal.returns
returns c =
    let v = c.args.self.now in
    let there = read_there v.rows.now v.rows.now c.args.string c.in_ok-row.row refl c.in_ok-row.ensures.lookup in
    string_read c.args.string _ v.rows.now v.texts.now _ _ _ there c.text_size-start.ensures c.split_at.ensures.front c.split_at.ensures.back
