-- A row whose body is changed, a row that is added and a row that is removed.
use Rattle.std.proofs.Common.{◌≡◌, ℕ, ◌+◌, ◌-◌, ◌<◌, ◌≤◌, List, [], ◌∷◌, ◌++◌, length, set, take, drop, Some, None, sym, refl, ap, ◌∙◌, subst, arith, length-drop, length-append, append_assoc, take-add}
use Rattle.std.specs.Prelude.{vec_items}
use Rattle.std.specs.List.{sum_by, splice, remove, slice_get}
use Rattle.std.proofs.lemmas.List.{take_all, drop-drop, drop_at, length-take-le, take_at, take-append-le, drop-take, take-take, get_or_push, get_or_append_left, get_or-set_same, take-set, length-set}
use Rattle.std.proofs.lemmas.List.Sums.{sum_by-cons, sum_by-set}
use Rattle.std.proofs.lemmas.Option.{slice_get_within, slice_get-get_or, get_or_from_slice_get}
use Rattle.std.proofs.lemmas.Slice.Eq.{bytes_eq-Decides}
use Rattle.machine.specs.Texts.{Text, first_place}
use Rattle.machine.specs.Dictionary.{Meaning, string, new_string, with_row}
use Rattle.machine.specs.Dictionary as machine
use Rattle.dictionary.specs.declared.rows.Row.{Row}
use Rattle.dictionary.specs.declared.rows.RowMeaning.{RowMeaning}
use Rattle.dictionary.specs.declared.finding.Place.{Place}
use Rattle.dictionary.specs.declared.dictionary.Dictionary.{Dictionary}
use Rattle.dictionary.specs.Decoding.{row_size, body_size, row_in, meaning_in}
use Rattle.dictionary.specs.Meant.{text_in, rows_in}
use Rattle.dictionary.specs.Finding.{row_named, RowAt, Standing, name_at, body_at, meaning_there}
use Rattle.dictionary.proofs.Packed.{length_packed}
use Rattle.dictionary.specs.Editing.{row_of}
use Rattle.dictionary.proofs.Located.{before, read, spot}
use Rattle.dictionary.proofs.Firsts.{with_row_new, first_passes, first_last, same_name}
use Rattle.dictionary.proofs.Edited.{Edited, edited, set_spliced, remove_spliced, push_spliced, splice_inside, length-splice}

-- the same edit, of rows that are known otherwise
meant_so : (d : Dictionary) (store : List ℕ) (rows : List Row) (row_bytes : ℕ) (text : List ℕ) (ms ns : List machine.Row) → ms ≡ ns → Edited d store rows row_bytes text ms → Edited d store rows row_bytes text ns
meant_so d store rows row_bytes text ms ns e h = subst (Edited d store rows row_bytes text) e h

counted : (d : Dictionary) (store : List ℕ) → length (rows_in d store) ≡ length (vec_items d.rows)
counted d store = length_packed row_size row_in (vec_items d.rows) (text_in d store)

single : (r : Row) → sum_by row_size (r ∷ []) ≡ row_size r
single r = omega (arith, sum_by-cons row_size r [])

-- one row and its bytes give way to others
pub row_changed : (d : Dictionary) (store : List ℕ) (p : Place) (r : Row) (rows : List Row) (row_bytes : ℕ) (text bytes : List ℕ) → d.used ≤ length store → slice_get (vec_items d.rows) p.index ≡ Some p.row → p.start ≡ before d p.index → row_size r ≡ length bytes → rows ≡ set (vec_items d.rows) p.index r → text ≡ splice (text_in d store) p.start (p.start + row_size p.row) bytes → row_bytes + row_size p.row ≡ d.row_bytes + length bytes → Edited d store rows row_bytes text (set (rows_in d store) p.index (row_in r bytes))
row_changed d store p r rows row_bytes text bytes h at start size rows_are text_is bytes_are =
    let i : ℕ = p.index in
    let there = read d store i p.row at h in
    let within : i < length (vec_items d.rows) = slice_get_within (vec_items d.rows) i p.row at in
    let ends : p.start + row_size p.row ≡ before d (i + 1) = omega (arith, there.next) in
    meant_so d store rows row_bytes text _ _ (sym (set_spliced (rows_in d store) i (row_in r bytes) (omega (arith, counted d store))))
    (edited d store i (i + 1) rows (r ∷ []) row_bytes text bytes h (omega arith) (omega arith) (single r ∙ size)
    (rows_are ∙ set_spliced (vec_items d.rows) i r within)
    (text_is ∙ ap (λ k. splice (text_in d store) k (p.start + row_size p.row) bytes) start ∙ ap (λ k. splice (text_in d store) (before d i) k bytes) ends)
    (omega (arith, there.next)))

-- one row and its bytes go
pub row_removed : (d : Dictionary) (store : List ℕ) (p : Place) (rows : List Row) (row_bytes : ℕ) (text : List ℕ) → d.used ≤ length store → RowAt d p → rows ≡ remove (vec_items d.rows) p.index → text ≡ splice (text_in d store) p.start (p.start + row_size p.row) [] → row_bytes + row_size p.row ≡ d.row_bytes → Edited d store rows row_bytes text (remove (rows_in d store) p.index)
row_removed d store p rows row_bytes text h at rows_are text_is bytes_are =
    let i : ℕ = p.index in
    let there = read d store i p.row at.row h in
    let within : i < length (vec_items d.rows) = slice_get_within (vec_items d.rows) i p.row at.row in
    let ends : p.start + row_size p.row ≡ before d (i + 1) = omega (arith, there.next, at.start) in
    meant_so d store rows row_bytes text _ _ (sym (remove_spliced (rows_in d store) i))
    (edited d store i (i + 1) rows [] row_bytes text [] h (omega arith) (omega arith) refl
    (rows_are ∙ remove_spliced (vec_items d.rows) i)
    (text_is ∙ ap (λ k. splice (text_in d store) k (p.start + row_size p.row) []) at.start ∙ ap (λ k. splice (text_in d store) (before d i) k []) ends)
    (omega (arith, there.next)))

-- one row comes last
pub row_added : (d : Dictionary) (store : List ℕ) (r : Row) (n : Text) (m : Meaning) (rows : List Row) (row_bytes : ℕ) (text bytes : List ℕ) → d.used ≤ length store → first_place (row_named n) (rows_in d store) ≡ None → row_size r ≡ length bytes → row_in r bytes ≡ row_of n m → rows ≡ vec_items d.rows ++ r ∷ [] → text ≡ splice (text_in d store) d.row_bytes d.row_bytes bytes → row_bytes ≡ d.row_bytes + length bytes → Edited d store rows row_bytes text (with_row n m (rows_in d store))
row_added d store r n m rows row_bytes text bytes h none size is rows_are text_is bytes_are =
    let i : ℕ = length (vec_items d.rows) in
    let all : d.row_bytes ≡ before d i = d.rows_filled ∙ ap (sum_by row_size) (sym (take_all i (vec_items d.rows) (omega arith))) in
    meant_so d store rows row_bytes text _ _
    (ap (λ k. splice (rows_in d store) k k (row_in r bytes ∷ [])) (sym (counted d store))
    ∙ sym (push_spliced (rows_in d store) (row_in r bytes))
    ∙ ap (λ (x : machine.Row). rows_in d store ++ x ∷ []) is
    ∙ sym (with_row_new n m (rows_in d store) none))
    (edited d store i i rows (r ∷ []) row_bytes text bytes h (omega arith) (omega arith) (single r ∙ size)
    (rows_are ∙ push_spliced (vec_items d.rows) r)
    (text_is ∙ ap (λ k. splice (text_in d store) k k bytes) all)
    (omega arith))

-- Bodies.

-- a splice behind a front is a splice of what lies behind it
pub splice_behind : {X : Type 0} (xs : List X) (a u v : ℕ) (ys : List X) → a + u ≤ length xs → take a (splice xs (a + u) (a + v) ys) ≡ take a xs
splice_behind {X = X} xs a u v ys l =
    ap (λ (l : List X). take a (l ++ (ys ++ drop (a + v) xs))) (take-add a u xs)
    ∙ ap (take a) (append_assoc (take a xs) (take u (drop a xs)) (ys ++ drop (a + v) xs))
    ∙ take_at (take a xs) (take u (drop a xs) ++ (ys ++ drop (a + v) xs)) a (length-take-le a xs (omega arith))

pub splice_rest : {X : Type 0} (xs : List X) (a u v : ℕ) (ys : List X) → a + u ≤ length xs → drop a (splice xs (a + u) (a + v) ys) ≡ splice (drop a xs) u v ys
splice_rest {X = X} xs a u v ys l =
    ap (λ (l : List X). drop a (l ++ (ys ++ drop (a + v) xs))) (take-add a u xs)
    ∙ ap (drop a) (append_assoc (take a xs) (take u (drop a xs)) (ys ++ drop (a + v) xs))
    ∙ drop_at (take a xs) (take u (drop a xs) ++ (ys ++ drop (a + v) xs)) a (length-take-le a xs (omega arith))
    ∙ ap (λ (l : List X). take u (drop a xs) ++ (ys ++ l)) (sym (drop-drop v a xs))

-- a part of the text is that part of the store
pub part_of_text : (d : Dictionary) (store : List ℕ) (a n : ℕ) → a + n ≤ d.used → take n (drop a (text_in d store)) ≡ take n (drop a store)
part_of_text d store a n h =
    let rest : ℕ = d.used - a in
    let whole : d.used ≡ a + rest = omega arith in
    ap (λ k. take n (drop a (take k store))) whole ∙ ap (take n) (drop-take a rest store) ∙ take-take n rest (drop a store) (omega arith)

-- the part from u to v of the body gives way to others, and the row means that from now on
pub body_changed : (d : Dictionary) (store : List ℕ) (p : Place) (m : RowMeaning) (u v : ℕ) (rows : List Row) (row_bytes : ℕ) (text piece : List ℕ) → d.used ≤ length store → RowAt d p → u ≤ v → v ≤ body_size p.row.meaning → body_size m + (v - u) ≡ body_size p.row.meaning + length piece → rows ≡ set (vec_items d.rows) p.index (record { name = p.row.name; meaning = m }) → text ≡ splice (text_in d store) (p.start + p.row.name + u) (p.start + p.row.name + v) piece → row_bytes + (v - u) ≡ d.row_bytes + length piece → Edited d store rows row_bytes text (set (rows_in d store) p.index (row_of (name_at p store) (meaning_in m (splice (body_at p store) u v piece))))
body_changed d store p m u v rows row_bytes text piece h at uv vl size rows_are text_is bytes_are =
    let i : ℕ = p.index in
    let a : ℕ = p.start in
    let n : ℕ = p.row.name in
    let t : List ℕ = text_in d store in
    let whole : ℕ = row_size p.row in
    let there = read d store i p.row at.row h in
    let start = at.start in
    let used : a + whole ≤ d.used = omega (arith, d.classes_filled) in
    let tl : length t ≡ d.used = length-take-le d.used store h in
    let slot : List ℕ = take whole (drop a t) in
    let slot_is : slot ≡ take whole (drop a store) = part_of_text d store a whole used in
    let slot_len : length slot ≡ whole = length-take-le whole (drop a t) (rw length-drop (omega arith)) in
    let bytes : List ℕ = splice slot (n + u) (n + v) piece in
    let bytes_len : length bytes + (n + v) ≡ whole + length piece + (n + u) = length-splice slot (n + u) (n + v) piece (omega arith) (omega arith) ∙ ap (λ k. k + length piece + (n + u)) slot_len in
    let r : Row = record { name = n; meaning = m } in
    let text_so : text ≡ splice t a (a + whole) bytes =
    text_is
    ∙ ap (λ k. splice t k (a + n + v) piece) (let same : a + n + u ≡ a + (n + u) = omega arith in same)
    ∙ ap (λ k. splice t (a + (n + u)) k piece) (let same : a + n + v ≡ a + (n + v) = omega arith in same)
    ∙ splice_inside t a whole (n + u) (n + v) piece (omega arith) (omega arith) (omega arith) in
    let names : take n bytes ≡ take n (drop a store) =
    splice_behind slot n u v piece (omega arith) ∙ ap (take n) slot_is ∙ take-take n whole (drop a store) (omega arith) in
    let bodies : drop n bytes ≡ splice (body_at p store) u v piece =
    splice_rest slot n u v piece (omega arith)
    ∙ ap (λ (l : List ℕ). splice l u v piece)
    (ap (drop n) slot_is ∙ drop-take n (body_size p.row.meaning) (drop a store) ∙ ap (take (body_size p.row.meaning)) (drop-drop n a store)) in
    meant_so d store rows row_bytes text _ _
    (ap (λ (x : machine.Row). set (rows_in d store) i x)
    (ap (λ (x : List ℕ). row_of x (meaning_in m (drop n bytes))) names ∙ ap (λ (x : List ℕ). row_of (take n (drop a store)) (meaning_in m x)) bodies))
    (row_changed d store p r rows row_bytes text bytes h at.row start (omega arith) rows_are text_so (omega arith))

-- the name of a row that is found
pub name_stands : (d : Dictionary) (store : List ℕ) (n : Text) (p : Place) → d.used ≤ length store → Standing d store n p → name_at p store ≡ n
name_stands d store n p h stands =
    let there = read d store p.index p.row stands.at.row h in
    let passes = first_passes (row_named n) (rows_in d store) p.index _ stands.first there.there in
    ap (λ k. take p.row.name (drop k store)) stands.at.start ∙ (bytes_eq-Decides (take p.row.name (drop (before d p.index) store)) n).0 passes

-- a row of an empty string, behind the others
pub empty_added : (d : Dictionary) (store : List ℕ) (r : Row) (n : Text) (rows : List Row) (row_bytes : ℕ) (text : List ℕ) → d.used ≤ length store → first_place (row_named n) (rows_in d store) ≡ None → row_size r ≡ length n → row_in r n ≡ row_of (take (length n) n) (string (new_string [])) → rows ≡ vec_items d.rows ++ r ∷ [] → text ≡ splice (text_in d store) d.row_bytes d.row_bytes n → row_bytes ≡ d.row_bytes + length n → Edited d store rows row_bytes text (with_row n (string (new_string [])) (rows_in d store))
empty_added d store r n rows row_bytes text h none size is rows_are text_is bytes_are =
    row_added d store r n (string (new_string [])) rows row_bytes text n h none size (is ∙ ap (λ x. row_of x (string (new_string []))) (take_all (length n) n (omega arith))) rows_are text_is bytes_are

pub first_added : (d : Dictionary) (store : List ℕ) (n : Text) (m : Meaning) (k : ℕ) (rows : List machine.Row) → first_place (row_named n) (rows_in d store) ≡ None → rows ≡ with_row n m (rows_in d store) → k ≡ length (vec_items d.rows) → first_place (row_named n) rows ≡ Some k
first_added d store n m k rows none rows_are count =
    ap (first_place (row_named n)) (rows_are ∙ with_row_new n m (rows_in d store) none)
    ∙ first_last (row_named n) (rows_in d store) (row_of n m) none (same_name n m)
    ∙ ap (λ j. Some j) (counted d store ∙ sym count)

pub row_last : (es : List Row) (r : Row) (rows : List Row) (k : ℕ) → rows ≡ es ++ r ∷ [] → k ≡ length es → slice_get rows k ≡ Some r
row_last es r rows k rows_are count =
    ap (λ (l : List Row). slice_get l k) rows_are
    ∙ slice_get-get_or (es ++ r ∷ []) k r (omega (arith, length-append es (r ∷ [])))
    ∙ ap (λ x. Some x) (get_or_push es r r k (sym count))

pub start_last : (d : Dictionary) (r : Row) (rows : List Row) (k : ℕ) → rows ≡ vec_items d.rows ++ r ∷ [] → k ≡ length (vec_items d.rows) → d.row_bytes ≡ sum_by row_size (take k rows)
start_last d r rows k rows_are count =
    d.rows_filled ∙ ap (sum_by row_size) (sym (ap (take k) rows_are ∙ take_at (vec_items d.rows) (r ∷ []) k (sym count)))

-- a row gives way to one of the same size
pub same_size : (d : Dictionary) (p : Place) (r : Row) → RowAt d p → row_size r ≡ row_size p.row → d.row_bytes ≡ sum_by row_size (set (vec_items d.rows) p.index r)
same_size d p r at same =
    omega (arith, d.rows_filled, sum_by-set row_size (vec_items d.rows) p.index r p.row (slice_get_within (vec_items d.rows) p.index p.row at.row), ap row_size (get_or_from_slice_get (vec_items d.rows) p.index p.row p.row at.row))

-- a row that stands goes on to stand where another comes behind it
pub earlier_stands : (d e : Dictionary) (r : Row) (p : Place) → vec_items e.rows ≡ vec_items d.rows ++ r ∷ [] → RowAt d p → RowAt e p
earlier_stands d e r p rows_are at =
    let es : List Row = vec_items d.rows in
    let within : p.index < length es = slice_get_within es p.index p.row at.row in
    record {
      row = ap (λ (l : List Row). slice_get l p.index) rows_are
          ∙ slice_get-get_or (es ++ r ∷ []) p.index p.row (omega (arith, length-append es (r ∷ [])))
          ∙ ap (λ x. Some x) (get_or_append_left es (r ∷ []) p.row p.index within ∙ get_or_from_slice_get es p.index p.row p.row at.row);
      start = at.start ∙ ap (sum_by row_size) (sym (ap (take p.index) rows_are ∙ take-append-le p.index es (r ∷ []) (omega arith)));
    }

-- what lies before the end of the rows, after bytes come in there
pub front_kept : (d : Dictionary) (store after : List ℕ) (used : ℕ) (bytes : List ℕ) → d.used ≤ length store → d.row_bytes ≤ used → take used after ≡ splice (text_in d store) d.row_bytes d.row_bytes bytes → take d.row_bytes after ≡ take d.row_bytes store
front_kept d store after used bytes h l text_is =
    let R : ℕ = d.row_bytes in
    let t : List ℕ = text_in d store in
    let size : R ≤ d.used = omega (arith, d.classes_filled) in
    let front : length (take R t) ≡ R = length-take-le R t (omega (arith, length-take-le d.used store h)) in
    sym (take-take R used after l)
    ∙ ap (take R) text_is
    ∙ take_at (take R t) (bytes ++ drop R t) R front
    ∙ take-take R d.used store size

-- the row that gave way to another stands
pub changed_stands : (d e : Dictionary) (p : Place) (m : RowMeaning) → RowAt d p → vec_items e.rows ≡ set (vec_items d.rows) p.index (record { name = p.row.name; meaning = m }) → RowAt e (meaning_there p m)
changed_stands d e p m at rows_are =
    let r : Row = record { name = p.row.name; meaning = m } in
    let es : List Row = vec_items d.rows in
    let within : p.index < length es = slice_get_within es p.index p.row at.row in
    record {
      row = ap (λ (l : List Row). slice_get l p.index) rows_are
          ∙ slice_get-get_or (set es p.index r) p.index r (omega (arith, length-set es p.index r))
          ∙ ap (λ x. Some x) (get_or-set_same es p.index r r within);
      start = at.start ∙ ap (sum_by row_size) (sym (ap (take p.index) rows_are ∙ take-set es p.index r));
    }

-- what a row means is what is read where it stands
pub means_there : (d : Dictionary) (store : List ℕ) (p : Place) (rows : List machine.Row) (n : Text) (m : Meaning) → d.used ≤ length store → RowAt d p → rows_in d store ≡ set rows p.index (row_of n m) → meaning_in p.row.meaning (drop (p.start + p.row.name) store) ≡ m
means_there d store p rows n m h at rows_are =
    let there = read d store p.index p.row at.row h in
    let long : length (rows_in d store) ≡ length rows = ap length rows_are ∙ length-set rows p.index (row_of n m) in
    let within : p.index < length rows = omega (arith, slice_get_within (rows_in d store) p.index _ there.there) in
    let now : slice_get (rows_in d store) p.index ≡ Some (row_of n m) =
    ap (λ (l : List machine.Row). slice_get l p.index) rows_are
    ∙ slice_get-get_or (set rows p.index (row_of n m)) p.index (row_of n m) (omega (arith, length-set rows p.index (row_of n m)))
    ∙ ap (λ x. Some x) (get_or-set_same rows p.index (row_of n m) (row_of n m) within) in
    let both : Some (row_in p.row (drop (before d p.index) store)) ≡ Some (row_of n m) = sym there.there ∙ now in
    let row : row_in p.row (drop (before d p.index) store) ≡ row_of n m = cc in
    ap (meaning_in p.row.meaning) (sym (drop-drop p.row.name p.start store) ∙ ap (λ k. drop p.row.name (drop k store)) at.start)
    ∙ ap (λ (r : machine.Row). r.meaning) row

-- the same, with the bytes of the rows as the code counts them
pub body_edited : (d : Dictionary) (store : List ℕ) (p : Place) (m : RowMeaning) (u v : ℕ) (text piece : List ℕ) → d.used ≤ length store → RowAt d p → (u ≤ v) × (v ≤ body_size p.row.meaning) → body_size m + (v - u) ≡ body_size p.row.meaning + length piece → text ≡ splice (text_in d store) (p.start + p.row.name + u) (p.start + p.row.name + v) piece → Edited d store (set (vec_items d.rows) p.index (record { name = p.row.name; meaning = m })) (d.row_bytes - (p.start + p.row.name + v - (p.start + p.row.name + u)) + length piece) text (set (rows_in d store) p.index (row_of (name_at p store) (meaning_in m (splice (body_at p store) u v piece))))
body_edited d store p m u v text piece h at part size text_is =
    let here = spot d p at in
    body_changed d store p m u v _ _ text piece h at part.0 part.1 size refl text_is (omega arith)

pub row_cut_out : (d : Dictionary) (store : List ℕ) (p : Place) (size : ℕ) (rows : List Row) (text : List ℕ) → d.used ≤ length store → RowAt d p → size ≡ row_size p.row → rows ≡ remove (vec_items d.rows) p.index → text ≡ splice (text_in d store) p.start (p.start + size) [] → Edited d store rows (d.row_bytes - size) text (remove (rows_in d store) p.index)
row_cut_out d store p size rows text h at size_is rows_are text_is =
    let here = spot d p at in
    row_removed d store p rows _ text h at rows_are (text_is ∙ ap (λ k. splice (text_in d store) p.start (p.start + k) []) size_is) (omega arith)
