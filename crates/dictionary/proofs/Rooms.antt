-- The room that an edit of rows needs, and edits one after the other.
use Rattle.std.proofs.Common.{◌≡◌, ℕ, ◌+◌, ◌-◌, ◌<◌, ◌≤◌, List, [], ◌∷◌, ◌++◌, length, set, take, drop, Some, None, sym, refl, ap, subst, ◌∙◌, inl, inr, ⊎_elim, slice_range, arith, length-append, length-drop}
use Rattle.std.specs.Prelude.{vec_items, vec_len}
use Rattle.std.specs.List.{sum_by, splice, slice_get}
use Rattle.std.proofs.lemmas.List.{length-take-le, drop_all, append-nil, take-take, drop-take}
use Rattle.std.proofs.lemmas.Bool.{cases_order}
use Rattle.std.proofs.lemmas.List.Sums.{sum_by-set, sum_by_push, sum_by-take-le}
use Rattle.std.proofs.lemmas.Option.{slice_get_within, get_or_from_slice_get}
use Rattle.machine.specs.Texts.{Text, first_place}
use Rattle.machine.specs.Dictionary.{Meaning, body_of, with_row, names_in, bytes_in}
use Rattle.machine.specs.Dictionary as machine
use Rattle.dictionary.specs.declared.finding.Place.{Place}
use Rattle.dictionary.specs.declared.dictionary.Dictionary.{Dictionary}
use Rattle.dictionary.specs.declared.rows.Row.{Row}
use Rattle.dictionary.specs.declared.rows.RowMeaning.{RowMeaning}
use Rattle.dictionary.specs.Decoding.{body_size, row_size, row_in, meaning_in}
use Rattle.dictionary.specs.Meant.{text_in, rows_in, classes_in, dictionary_in}
use Rattle.dictionary.specs.Finding.{row_named, RowAt, Standing, name_at, body_at}
use Rattle.dictionary.specs.Editing.{row_of, with_rows, Room, RowsEdited}
use Rattle.dictionary.proofs.Sizes.{row_measure, class_measure, rows_measured, bytes_used, names_counted}
use Rattle.dictionary.proofs.Located.{spot, read, before, sum_next}
use Rattle.dictionary.proofs.Firsts.{with_row_at, with_row_new}
use Rattle.area.specs.Pieces.{LiesClear}
use Rattle.dictionary.proofs.Edited.{Edited}
use Rattle.dictionary.proofs.Changed.{name_stands, body_changed, part_of_text}

-- room for a name that is absent to mean something: room to add it
pub record RoomToAdd (d : Dictionary) (store : List ℕ) (n : Text) : Type 0 where
  pub memory : vec_len d.rows < d.most_rows
  pub fits : d.used + length n ≤ length store

pub room_to_add : (d : Dictionary) (store : List ℕ) (n : Text) (m : Meaning) → d.used ≤ length store → first_place (row_named n) (rows_in d store) ≡ None → Room d store (with_rows (with_row n m (rows_in d store)) (dictionary_in d store)) → RoomToAdd d store n
room_to_add d store n m h none room =
    let rows : List machine.Row = rows_in d store in
    let more : with_row n m rows ≡ rows ++ row_of n m ∷ [] = with_row_new n m rows none in
    record {
      memory = omega (arith, room.names, ap length more, length-append rows (row_of n m ∷ []), names_counted d store);
      fits = omega (arith, room.bytes, ap (sum_by row_measure) more, sum_by_push row_measure rows (row_of n m), bytes_used d store h);
    }

-- what is in use once the body of a row gives way to another
pub put_size : (d : Dictionary) (store : List ℕ) (n : Text) (p : Place) (m : Meaning) → d.used ≤ length store → Standing d store n p → sum_by row_measure (with_row n m (rows_in d store)) + sum_by class_measure (classes_in d store) + body_size p.row.meaning ≡ d.used + length (body_of m)
put_size d store n p m h stands =
    let rows : List machine.Row = rows_in d store in
    let i : ℕ = p.index in
    let here = spot d p stands.at in
    let there = read d store i p.row stands.at.row h in
    let old : machine.Row = row_in p.row (drop (before d i) store) in
    let old_size : row_measure old ≡ row_size p.row = rows_measured.same p.row (drop (before d i) store) (rw length-drop (omega (arith, stands.at.start))) in
    let old_is = get_or_from_slice_get rows i old old there.there in
    let name_size : length n ≡ p.row.name =
    ap length (sym (name_stands d store n p h stands)) ∙ length-take-le p.row.name (drop p.start store) (rw length-drop (omega arith)) in
    omega (arith, ap (sum_by row_measure) (with_row_at n m rows i stands.first), sum_by-set row_measure rows i (row_of n m) old (slice_get_within rows i old there.there), ap row_measure old_is, bytes_used d store h)

-- a body that gives way as a whole
pub whole_splice : (xs ys : List ℕ) → splice xs 0 (length xs) ys ≡ ys
whole_splice xs ys = ap (λ (l : List ℕ). ys ++ l) (drop_all (length xs) xs (omega arith)) ∙ append-nil ys

-- edits one after the other
pub both_edited : (d e f : Dictionary) (store then after : List ℕ) → RowsEdited d e store then → RowsEdited e f then after → RowsEdited d f store after
both_edited d e f store then after one two =
    record {
      originals = two.originals ∙ one.originals;
      classes = two.classes ∙ one.classes;
      kept = record { most_rows = two.kept.most_rows ∙ one.kept.most_rows; whole = two.kept.whole };
    }

pub unedited : (d : Dictionary) (store : List ℕ) → d.used ≤ length store → RowsEdited d d store store
unedited d store h = record { originals = refl; classes = refl; kept = record { most_rows = refl; whole = h } }

-- a row whose body gives way as a whole: it means that now
pub row_put : (d : Dictionary) (store : List ℕ) (n : Text) (p : Place) (m : RowMeaning) (size : ℕ) (body : List ℕ) → d.used ≤ length store → Standing d store n p → size ≡ body_size p.row.meaning → set (rows_in d store) p.index (row_of (name_at p store) (meaning_in m (splice (body_at p store) 0 size body))) ≡ with_row n (meaning_in m body) (rows_in d store)
row_put d store n p m size body h stands size_is =
    let here = spot d p stands.at in
    let all : length (body_at p store) ≡ size = length-take-le (body_size p.row.meaning) (drop (p.start + p.row.name) store) (rw length-drop (omega arith)) ∙ sym size_is in
    ap (λ (x : Text). set (rows_in d store) p.index (row_of x (meaning_in m (splice (body_at p store) 0 size body)))) (name_stands d store n p h stands)
    ∙ ap (λ (x : List ℕ). set (rows_in d store) p.index (row_of n (meaning_in m x))) (ap (λ k. splice (body_at p store) 0 k body) (sym all) ∙ whole_splice (body_at p store) body)
    ∙ sym (with_row_at n (meaning_in m body) (rows_in d store) p.index stands.first)

-- a body that gives way as a whole to a piece of the text
pub body_replaced : (d : Dictionary) (store : List ℕ) (p : Place) (m : RowMeaning) (from to end : ℕ) (rows : List Row) (row_bytes : ℕ) (text : List ℕ) → d.used ≤ length store → RowAt d p → from ≤ to → to ≤ d.used → body_size m ≡ to - from → rows ≡ set (vec_items d.rows) p.index (record { name = p.row.name; meaning = m }) → end ≡ row_size p.row → text ≡ splice (text_in d store) (p.start + p.row.name) (p.start + end) (slice_range (text_in d store) from to) → row_bytes + body_size p.row.meaning ≡ d.row_bytes + (to - from) → Edited d store rows row_bytes text (set (rows_in d store) p.index (row_of (name_at p store) (meaning_in m (slice_range store from to))))
body_replaced d store p m from to end rows row_bytes text h at ordered within size rows_are end_is text_is bytes_are =
    let here = spot d p at in
    let b : ℕ = p.start + p.row.name in
    let n : ℕ = body_size p.row.meaning in
    let piece : List ℕ = slice_range (text_in d store) from to in
    let piece_is : piece ≡ slice_range store from to = part_of_text d store from (to - from) (omega arith) in
    let piece_len : length piece ≡ to - from = length-take-le (to - from) (drop from (text_in d store)) (rw length-drop (omega (arith, length-take-le d.used store h))) in
    let body_len : length (body_at p store) ≡ n = length-take-le n (drop b store) (rw length-drop (omega arith)) in
    let edit = body_changed d store p m 0 n rows row_bytes text piece h at (omega arith) (omega arith) (omega arith) rows_are
    (text_is
    ∙ ap (λ k. splice (text_in d store) k (p.start + end) piece) (let same : b ≡ b + 0 = omega arith in same)
    ∙ ap (λ k. splice (text_in d store) (b + 0) k piece) (let same : p.start + end ≡ b + n = omega arith in same))
    (omega arith) in
    subst (Edited d store rows row_bytes text)
    (ap (λ (x : List ℕ). set (rows_in d store) p.index (row_of (name_at p store) (meaning_in m x)))
    (ap (λ k. splice (body_at p store) 0 k piece) (sym body_len) ∙ whole_splice (body_at p store) piece ∙ piece_is))
    edit

-- rows lie apart
pub rows_apart : (d : Dictionary) (p q : Place) → RowAt d p → RowAt d q → p.index < q.index → p.start + row_size p.row ≤ q.start
rows_apart d p q atp atq less =
    let es : List Row = vec_items d.rows in
    let next : before d (p.index + 1) ≡ before d p.index + row_size p.row = sum_next row_size es p.index p.row atp.row in
    let least : before d (p.index + 1) ≤ before d q.index =
    subst (λ k. k ≤ before d q.index) (ap (sum_by row_size) (take-take (p.index + 1) q.index es (omega arith))) (sum_by-take-le row_size (take q.index es) (p.index + 1)) in
    omega (arith, atp.start, atq.start)

-- a part of one row's body lies clear of another body, or of the same
pub lies_clear : (d : Dictionary) (p q : Place) (from to : ℕ) → RowAt d p → RowAt d q → p.start + p.row.name ≤ from → to ≤ p.start + row_size p.row → LiesClear (q.start + q.row.name) (q.start + row_size q.row) from to
lies_clear d p q from to atp atq low high =
    ⊎_elim
    (λ same.
    let rows : Some p.row ≡ Some q.row = sym atp.row ∙ ap (slice_get (vec_items d.rows)) same ∙ atq.row in
    let row : p.row ≡ q.row = cc in
    let start : p.start ≡ q.start = atp.start ∙ ap (before d) same ∙ sym atq.start in
    inr (inr (omega (arith, ap (λ (r : Row). r.name) row), omega (arith, ap row_size row))))
    (⊎_elim
    (λ less. inl (omega (arith, rows_apart d p q atp atq less)))
    (λ more. inr (inl (omega (arith, rows_apart d q p atq atp more)))))
    (cases_order p.index q.index)

-- a part of the store's front that is kept
pub part_kept : (store after : List ℕ) (n from to : ℕ) → from ≤ to → to ≤ n → take n after ≡ take n store → slice_range after from to ≡ slice_range store from to
part_kept store after n from to ordered within kept =
    let k : ℕ = n - from in
    let whole : n ≡ from + k = omega arith in
    let front : (xs : List ℕ) → slice_range xs from to ≡ take (to - from) (drop from (take n xs)) =
    λ xs. sym (ap (λ m. take (to - from) (drop from (take m xs))) whole ∙ ap (take (to - from)) (drop-take from k xs) ∙ take-take (to - from) k (drop from xs) (omega arith)) in
    front after ∙ ap (λ x. take (to - from) (drop from x)) kept ∙ sym (front store)

-- a row that means that from now on
pub row_means : (d : Dictionary) (store : List ℕ) (n : Text) (p : Place) (m k : Meaning) → d.used ≤ length store → Standing d store n p → m ≡ k → set (rows_in d store) p.index (row_of (name_at p store) m) ≡ with_row n k (rows_in d store)
row_means d store n p m k h stands same =
    ap (λ (x : Text). set (rows_in d store) p.index (row_of x m)) (name_stands d store n p h stands)
    ∙ ap (λ (x : Meaning). set (rows_in d store) p.index (row_of n x)) same
    ∙ sym (with_row_at n k (rows_in d store) p.index stands.first)

-- the same, with the bytes of the rows as the code counts them
pub body_copied : (d : Dictionary) (store : List ℕ) (p : Place) (m : RowMeaning) (from to size : ℕ) (text : List ℕ) → d.used ≤ length store → RowAt d p → (from ≤ to) × (to ≤ d.used) → body_size m ≡ to - from → size ≡ row_size p.row → text ≡ splice (text_in d store) (p.start + p.row.name) (p.start + size) (slice_range (text_in d store) from to) → Edited d store (set (vec_items d.rows) p.index (record { name = p.row.name; meaning = m })) (d.row_bytes - (p.start + size - (p.start + p.row.name)) + (to - from)) text (set (rows_in d store) p.index (row_of (name_at p store) (meaning_in m (slice_range store from to))))
body_copied d store p m from to size text h at piece m_size size_is text_is =
    let here = spot d p at in
    body_replaced d store p m from to size _ _ text h at piece.0 piece.1 m_size refl size_is text_is (omega arith)
