use Rattle.std.proofs.Common.{vec_items, sym, ap, ◌∙◌, arith}
use Rattle.std.specs.Option.{option_map}
use Rattle.shelf.specs.Places.{program_viewed}
use Rattle.shelf.proofs.Totals.{read_there, read_past}
use Rattle.shelf.proofs.Packed.{nth_decoded, program_read}
use Rattle.shelf.proofs.Meant.{span_of, counted_of, filled_of}
use Rattle.shelf.proofs.shelf.Shelf.view.Goals as goal

pub returns-in_err-row : goal.returns-in_err-row
returns-in_err-row c =
    let s = c.args.self.now in
    let past = read_past _ (vec_items s.programs) c.args.program c.deref.ensures.value c.in_err-row.ensures.lookup in
    ap (option_map program_viewed) c.from_residual.ensures
    ∙ sym (nth_decoded c.args.program (vec_items s.programs) (vec_items s.strings) (vec_items s.bytes) ∙ ap (option_map _) past)

pub slice_bounds-result-end : goal.slice_bounds-result-end
slice_bounds-result-end c =
    let s = c.args.self.now in
    let there = read_there _ (vec_items s.programs) c.args.program c.in_ok-row.row c.deref.ensures.value c.in_ok-row.ensures.lookup in
    let span = span_of s c.args.program c.in_ok-row.row.now there in
    omega arith

pub invariant_of-result : goal.invariant_of-result
invariant_of-result c =
    let s = c.args.self.now in
    let there = read_there _ (vec_items s.programs) c.args.program c.in_ok-row.row c.deref.ensures.value c.in_ok-row.ensures.lookup in
    let read = program_read c.args.program _ (vec_items s.programs) (vec_items s.strings) _ (vec_items s.bytes) _ _ _ _ _ there (counted_of s) (filled_of s)
    c.place-string.ensures.string c.place-string.ensures.byte c.deref-3.ensures.value c.deref-2.ensures.value c.split_at.ensures.front c.split_at.ensures.back in
    record { within = read.within }

pub returns : goal.returns
returns c =
    let s = c.args.self.now in
    let there = read_there _ (vec_items s.programs) c.args.program c.in_ok-row.row c.deref.ensures.value c.in_ok-row.ensures.lookup in
    let read = program_read c.args.program _ (vec_items s.programs) (vec_items s.strings) _ (vec_items s.bytes) _ _ _ _ _ there (counted_of s) (filled_of s)
    c.place-string.ensures.string c.place-string.ensures.byte c.deref-3.ensures.value c.deref-2.ensures.value c.split_at.ensures.front c.split_at.ensures.back in
    read.there
