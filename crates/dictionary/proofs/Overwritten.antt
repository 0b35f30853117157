-- A part of a row's body that is overwritten in the store.
use Rattle.std.proofs.Common.{◌≡◌, ℕ, ◌+◌, ◌-◌, ◌≤◌, List, [], ◌++◌, length, set, take, drop, Some, sym, ap, ◌∙◌, arith, length-drop, length-append, append_assoc}
use Rattle.std.specs.Prelude.{vec_items, slice_range}
use Rattle.std.specs.List.{splice, slice_get}
use Rattle.std.proofs.lemmas.List.{drop-drop, drop-take, take-take, drop_all, length-take-le, set-get_or, set-set, append-nil}
use Rattle.std.proofs.Math.Seq.{take-append-add}
use Rattle.std.proofs.lemmas.Option.{get_or_from_slice_get}
use Rattle.machine.specs.Texts.{Text, first_place}
use Rattle.machine.specs.Dictionary.{Str, Meaning, string, rest_of, with_row}
use Rattle.machine.specs.Strings.{with_mark, with_rest}
use Rattle.machine.specs.Dictionary as machine
use Rattle.dictionary.specs.declared.finding.Place.{Place}
use Rattle.dictionary.specs.declared.string_place.StringPlace.{StringPlace}
use Rattle.dictionary.specs.declared.dictionary.Dictionary.{Dictionary}
use Rattle.dictionary.specs.Decoding.{packed, body_size, meaning_in, class_size, class_in}
use Rattle.dictionary.specs.Meant.{text_in, rows_in, classes_in}
use Rattle.dictionary.specs.Finding.{row_named, RowAt, name_at, body_at}
use Rattle.dictionary.specs.Editing.{row_of}
use Rattle.dictionary.specs.Strings.{place_of, string_in}
use Rattle.dictionary.proofs.Located.{spot}
use Rattle.dictionary.proofs.Edited.{length-splice}
use Rattle.dictionary.proofs.Changed.{body_changed, splice_behind, splice_rest}
use Rattle.dictionary.proofs.Said.{string_of, body_length, row_said}

-- the front of a list with a splice of the same length in it
take_splice : {X : Type 0} (xs : List X) (a b k : ℕ) (ys : List X) → a + length ys ≡ b → b + k ≤ length xs → take (b + k) (splice xs a b ys) ≡ splice (take (b + k) xs) a b ys
take_splice {X = X} xs a b k ys size l =
    let front : length (take a xs ++ ys) ≡ b = omega (arith, length-append (take a xs) ys, length-take-le a xs (omega arith)) in
    ap (take (b + k)) (sym (append_assoc (take a xs) ys (drop b xs)))
    ∙ ap (λ n. take (n + k) (take a xs ++ ys ++ drop b xs)) (sym front)
    ∙ take-append-add (take a xs ++ ys) (drop b xs) k
    ∙ append_assoc (take a xs) ys (take k (drop b xs))
    ∙ ap (λ (x : List X). x ++ (ys ++ take k (drop b xs))) (sym (take-take a (b + k) xs (omega arith)))
    ∙ ap (λ (x : List X). take a (take (b + k) xs) ++ (ys ++ x)) (sym (drop-take b k xs))

take_splice_le : {X : Type 0} (xs : List X) (a b n : ℕ) (ys : List X) → a + length ys ≡ b → b ≤ n → n ≤ length xs → take n (splice xs a b ys) ≡ splice (take n xs) a b ys
take_splice_le {X = X} xs a b n ys size h l =
    let k : ℕ = n - b in
    let same : n ≡ b + k = omega arith in
    ap (λ m. take m (splice xs a b ys)) same ∙ take_splice xs a b k ys size (omega arith) ∙ ap (λ m. splice (take m xs) a b ys) (sym same)

set_same : {X : Type 0} (xs : List X) (i : ℕ) (x : X) → slice_get xs i ≡ Some x → xs ≡ set xs i x
set_same xs i x at = sym (ap (set xs i) (sym (get_or_from_slice_get xs i x x at)) ∙ set-get_or xs i x)

-- the dictionary over the overwritten store
pub record Overwritten (d : Dictionary) (store after : List ℕ) (p : Place) (u v : ℕ) (bytes : List ℕ) : Type 0 where
  pub rows_are : rows_in d after ≡ set (rows_in d store) p.index (row_of (name_at p store) (meaning_in p.row.meaning (splice (body_at p store) u v bytes)))
  pub classes_are : classes_in d after ≡ classes_in d store
  pub name_is : name_at p after ≡ name_at p store
  pub body_is : body_at p after ≡ splice (body_at p store) u v bytes

pub overwritten : (d : Dictionary) (store after : List ℕ) (p : Place) (u v : ℕ) (bytes : List ℕ) → d.used ≤ length store → RowAt d p → u + length bytes ≡ v → v ≤ body_size p.row.meaning → after ≡ splice store (p.start + p.row.name + u) (p.start + p.row.name + v) bytes → Overwritten d store after p u v bytes
overwritten d store after p u v bytes h at size vl after_is =
    let here = spot d p at in
    let a : ℕ = p.start in
    let n : ℕ = p.row.name in
    let l : ℕ = body_size p.row.meaning in
    let text_is : text_in d after ≡ splice (text_in d store) (a + n + u) (a + n + v) bytes =
    ap (take d.used) after_is ∙ take_splice_le store (a + n + u) (a + n + v) d.used bytes (omega arith) (omega arith) h in
    let edit = body_changed d store p p.row.meaning u v (vec_items d.rows) d.row_bytes (text_in d after) bytes h at (omega arith) vl (omega arith)
    (set_same (vec_items d.rows) p.index p.row at.row) text_is (omega arith) in
    let rest : drop (a + n) after ≡ splice (drop (a + n) store) u v bytes =
    ap (drop (a + n)) after_is ∙ splice_rest store (a + n) u v bytes (omega arith) in
    let front : drop a after ≡ splice (drop a store) (n + u) (n + v) bytes =
    ap (drop a) after_is
    ∙ ap (λ k. drop a (splice store k (a + n + v) bytes)) (let same : a + n + u ≡ a + (n + u) = omega arith in same)
    ∙ ap (λ k. drop a (splice store (a + (n + u)) k bytes)) (let same : a + n + v ≡ a + (n + v) = omega arith in same)
    ∙ splice_rest store a (n + u) (n + v) bytes (omega arith) in
    record {
      rows_are = edit.rows_are;
      classes_are = ap (packed class_size class_in (vec_items d.classes)) edit.classes_are;
      name_is = ap (take n) front ∙ splice_behind (drop a store) n u v bytes (rw length-drop (omega arith));
      body_is = ap (take l) rest ∙ take_splice_le (drop (a + n) store) u v l bytes size vl (rw length-drop (omega arith));
    }

-- the rest of a string, as it lies in the store
pub rest_in_store : (s : StringPlace) (store : List ℕ) → slice_range store (s.start + s.name + s.extent.pointer) (s.start + s.name + s.extent.length) ≡ rest_of (string_in s store)
rest_in_store s store =
    let b : ℕ = s.start + s.name in
    let p : ℕ = s.extent.pointer in
    let n : ℕ = s.extent.length in
    let k : ℕ = n - p in
    let long : (b + n) - (b + p) ≡ k = omega arith in
    let whole : n ≡ p + k = omega (arith, s.extent.within) in
    ap (λ j. take j (drop (b + p) store)) long
    ∙ ap (take k) (sym (drop-drop p b store))
    ∙ sym (drop-take p k (drop b store))
    ∙ ap (λ j. drop p (take j (drop b store))) (sym whole)

-- a body whose rest is overwritten and cut short
pub meaning_cut : (body bytes : List ℕ) (p n k : ℕ) (t : List ℕ) → length body ≡ n → p + length bytes ≡ n → k ≤ length bytes → take k bytes ≡ t → string_of (take (p + k) (splice (splice body p n bytes) (p + k) n [])) p ≡ string (with_rest t (record { body = body; pointer = p }))
meaning_cut body bytes p n k t size long short cut =
    let over : List ℕ = splice body p n bytes in
    let over_len : length over ≡ n = omega (arith, length-splice body p n bytes (omega arith) (omega arith)) in
    let front : length (take p body) ≡ p = length-take-le p body (omega arith) in
    let all : splice over (p + k) n [] ≡ take (p + k) over =
    ap (λ (l : List ℕ). take (p + k) over ++ l) (drop_all n over (omega arith)) ∙ append-nil (take (p + k) over) in
    let kept : take (p + k) over ≡ take p body ++ t =
    ap (λ (l : List ℕ). take (p + k) (take p body ++ (bytes ++ l))) (drop_all n body (omega arith))
    ∙ ap (λ (l : List ℕ). take (p + k) (take p body ++ l)) (append-nil bytes)
    ∙ ap (λ j. take (j + k) (take p body ++ bytes)) (sym front)
    ∙ take-append-add (take p body) bytes k
    ∙ ap (λ (l : List ℕ). take p body ++ l) cut in
    ap (λ (l : List ℕ). string_of (take (p + k) l) p) all
    ∙ ap (λ (l : List ℕ). string_of l p) (take-take (p + k) (p + k) over (omega arith) ∙ kept)

-- A string whose rest is overwritten in the store, and then cut short: q is its place, and `rows` what the rows mean then.
pub record Cut (d : Dictionary) (store after : List ℕ) (s : StringPlace) (bytes : List ℕ) (k : ℕ) (t : List ℕ) : Type 0 where
  pub whole : d.used ≤ length store
  pub at : RowAt d (place_of s)
  pub size : s.extent.pointer + length bytes ≡ s.extent.length
  pub short : k ≤ length bytes
  pub cut : take k bytes ≡ t
  pub after_is : after ≡ splice store (s.start + s.name + s.extent.pointer) (s.start + s.name + s.extent.length) bytes

abbrev pub cut_value : StringPlace → ℕ → Place → List ℕ → Meaning
cut_value s k q after = string_of (take (s.extent.pointer + k) (splice (body_at q after) (s.extent.pointer + k) s.extent.length [])) s.extent.pointer

pub value_cut : (d : Dictionary) (store after : List ℕ) (s : StringPlace) (bytes : List ℕ) (k : ℕ) (t : List ℕ) (q : Place) → Cut d store after s bytes k t → q ≡ place_of s → cut_value s k q after ≡ string (with_rest t (string_in s store))
value_cut d store after s bytes k t q c same =
    let p : ℕ = s.extent.pointer in
    let l : ℕ = s.extent.length in
    let over = overwritten d store after (place_of s) p l bytes c.whole c.at c.size (omega arith) c.after_is in
    ap (λ (x : Place). cut_value s k x after) same
    ∙ ap (λ (x : List ℕ). string_of (take (p + k) (splice x (p + k) l [])) p) over.body_is
    ∙ meaning_cut (string_in s store).body bytes p l k t (body_length d store s c.whole c.at) c.size c.short c.cut

pub rows_cut : (d : Dictionary) (store after : List ℕ) (s : StringPlace) (bytes : List ℕ) (k : ℕ) (t : List ℕ) (q : Place) (rows : List machine.Row) → Cut d store after s bytes k t → q ≡ place_of s → rows ≡ set (rows_in d after) q.index (row_of (name_at q after) (cut_value s k q after)) → (n : Text) → first_place (row_named n) (rows_in d store) ≡ Some s.index → rows ≡ with_row n (string (with_rest t (string_in s store))) (rows_in d store)
rows_cut d store after s bytes k t q rows c same rows_are n first =
    let p : ℕ = s.extent.pointer in
    let l : ℕ = s.extent.length in
    let i : ℕ = s.index in
    let over = overwritten d store after (place_of s) p l bytes c.whole c.at c.size (omega arith) c.after_is in
    let value : Meaning = cut_value s k q after in
    rows_are
    ∙ ap (λ (x : Place). set (rows_in d after) x.index (row_of (name_at x after) value)) same
    ∙ ap (λ (x : Text). set (rows_in d after) i (row_of x value)) over.name_is
    ∙ ap (λ (rs : List machine.Row). set rs i (row_of (name_at (place_of s) store) value)) over.rows_are
    ∙ set-set (rows_in d store) i _ (row_of (name_at (place_of s) store) value)
    ∙ row_said d store n s value (with_rest t (string_in s store)) c.whole c.at first (value_cut d store after s bytes k t q c same)

pub same_string : (a b : Str) → string a ≡ string b → a ≡ b
same_string a b e = cc

pub length_slice : {X : Type 0} (xs : List X) (a b : ℕ) → a ≤ b → b ≤ length xs → a + length (slice_range xs a b) ≡ b
length_slice xs a b h l = omega (arith, length-take-le (b - a) (drop a xs) (rw length-drop (omega arith)))

-- what marking leaves of the rest of a string
pub marks_cut : (d : Dictionary) (store after : List ℕ) (s : StringPlace) (b k : ℕ) (sought : List ℕ) (mark : ℕ) → d.used ≤ length store → RowAt d (place_of s) → b ≡ s.start + s.name → length after ≡ length store → after ≡ splice store (b + s.extent.pointer) (b + s.extent.length) (slice_range after (b + s.extent.pointer) (b + s.extent.length)) → k ≤ (b + s.extent.length) - (b + s.extent.pointer) → take k (slice_range after (b + s.extent.pointer) (b + s.extent.length)) ≡ with_mark sought mark (slice_range store (b + s.extent.pointer) (b + s.extent.length)) → Cut d store after s (slice_range after (b + s.extent.pointer) (b + s.extent.length)) k (with_mark sought mark (rest_of (string_in s store)))
marks_cut d store after s b k sought mark h at start long over short marked =
    let p : ℕ = s.extent.pointer in
    let l : ℕ = s.extent.length in
    let here = spot d (place_of s) at in
    let within : p ≤ l = s.extent.within in
    let size = length_slice after (b + p) (b + l) (omega arith) (omega arith) in
    record {
      whole = h;
      at = at;
      size = omega arith;
      short = omega arith;
      cut = marked ∙ ap (λ j. with_mark sought mark (slice_range store (j + p) (j + l))) start ∙ ap (with_mark sought mark) (rest_in_store s store);
      after_is = over ∙ ap (λ j. splice store (j + p) (j + l) (slice_range after (b + p) (b + l))) start;
    }
