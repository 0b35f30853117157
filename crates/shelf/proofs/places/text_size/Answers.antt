use Rattle.std.proofs.Common.{◌≡◌, ℕ, ◌+◌, ◌<◌, ◌^◌, List, length, get_or, ap, arith, Fits, w64}
use Rattle.std.proofs.iter.Serving.{serving}
use Rattle.std.proofs.lemmas.List.Sums.{sum_by_more_le}
use Rattle.shelf.specs.declared.rows.StringRow.{StringRow}
use Rattle.shelf.specs.Decoding.{text_sizes}
use Rattle.shelf.proofs.Packed.{row_text}
use Rattle.shelf.proofs.places.text_size.Goals as goal

row_fits : (rows : List StringRow) (k : ℕ) (r : StringRow) → k < length rows → r ≡ get_or rows k r → text_sizes rows < 2 ^ 64 → Fits w64 (r.name + r.body)
row_fits rows k r h e small =
    let here : row_text r ≡ row_text (get_or rows k r) = ap row_text e in
    omega (arith, sum_by_more_le row_text rows k r h)

pub sum-requires-clause-can : goal.sum-requires-clause-can
sum-requires-clause-can c = grind (serving, row_fits)
