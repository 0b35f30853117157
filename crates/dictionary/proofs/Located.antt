-- Rows that are found.
use Rattle.std.proofs.Common.{◌≡◌, ℕ, ◌+◌, ◌-◌, ◌<◌, ◌≤◌, Bool, true, false, List, [], ◌∷◌, ◌++◌, length, get_or, take, drop, Some, None, sym, ap, ◌∙◌, add-one, arith}
use Rattle.std.specs.Prelude.{vec_items, vec_len}
use Rattle.std.specs.List.{slice_get, sum_by}
use Rattle.std.specs.Option.{option_map}
use Rattle.std.specs.Str.{bytes_eq}
use Rattle.std.proofs.lemmas.List.Sums.{sum_by-take-le, sum_by_push}
use Rattle.std.proofs.lemmas.List.{take_more, take_all}
use Rattle.std.proofs.lemmas.Option.{slice_get_within, get_or_from_slice_get, slice_get-get_or}
use Rattle.machine.specs.Texts.{Text, first_place}
use Rattle.machine.specs.Dictionary as machine
use Rattle.dictionary.specs.declared.rows.Row.{Row}
use Rattle.dictionary.specs.declared.finding.Place.{Place}
use Rattle.dictionary.specs.declared.dictionary.Dictionary.{Dictionary}
use Rattle.dictionary.specs.Decoding.{packed, row_size, row_in}
use Rattle.dictionary.specs.Meant.{text_in, rows_in}
use Rattle.dictionary.specs.Finding.{row_named, RowAt, Standing}
use Rattle.dictionary.proofs.Packed.{packed_front, nth_packed, length_packed}
use Rattle.dictionary.proofs.Sizes.{rows_framed}
use Rattle.dictionary.proofs.Firsts.{first_at, none_more}

pub sum_next : {X : Type 0} (f : X → ℕ) (xs : List X) (i : ℕ) (x : X) → slice_get xs i ≡ Some x → sum_by f (take (i + 1) xs) ≡ sum_by f (take i xs) + f x
sum_next {X = X} f xs i x e =
    ap (sum_by f) (take_more xs i x (slice_get_within xs i x e) ∙ ap (λ (y : X). take i xs ++ y ∷ []) (get_or_from_slice_get xs i x x e))
    ∙ sum_by_push f (take i xs) x

abbrev pub before : Dictionary → ℕ → ℕ
before d i = sum_by row_size (take i (vec_items d.rows))

-- rows lie at the front of the store
pub rows_of_store : (d : Dictionary) (store : List ℕ) → d.used ≤ length store → rows_in d store ≡ packed row_size row_in (vec_items d.rows) store
rows_of_store d store h = packed_front row_size row_in (vec_items d.rows) store d.used rows_framed (omega (arith, d.rows_filled, d.classes_filled)) h

-- row i of the dictionary
pub record Read (d : Dictionary) (store : List ℕ) (i : ℕ) (r : Row) : Type 0 where
  pub within : before d i + row_size r ≤ d.row_bytes
  pub next : before d (i + 1) ≡ before d i + row_size r
  pub there : slice_get (rows_in d store) i ≡ Some (row_in r (drop (before d i) store))

pub read : (d : Dictionary) (store : List ℕ) (i : ℕ) (r : Row) → slice_get (vec_items d.rows) i ≡ Some r → d.used ≤ length store → Read d store i r
read d store i r at h =
    let step : before d (i + 1) ≡ before d i + row_size r = sum_next row_size (vec_items d.rows) i r at in
    record {
      within = omega (arith, sum_by-take-le row_size (vec_items d.rows) (i + 1), d.rows_filled);
      next = step;
      there = ap (λ (rs : List machine.Row). slice_get rs i) (rows_of_store d store h)
          ∙ nth_packed row_size row_in i (vec_items d.rows) store
          ∙ ap (option_map (λ (r : Row). row_in r (drop (before d i) store))) at;
    }

-- a row that the loop comes to: the name that is read of the store is the row's
pub record Come (d : Dictionary) (store : List ℕ) (n : Text) (i start : ℕ) (r : Row) : Type 0 where
  pub at : slice_get (vec_items d.rows) i ≡ Some r
  pub start_is : start ≡ before d i
  pub none : first_place (row_named n) (take i (rows_in d store)) ≡ None
  pub whole : d.used ≤ length store

pub come : (d : Dictionary) (store : List ℕ) (n : Text) (i start : ℕ) (r : Row) (rows : List Row) → rows ≡ vec_items d.rows → i < length rows → r ≡ get_or rows i r → start ≡ before d i → first_place (row_named n) (take i (rows_in d store)) ≡ None → d.used ≤ length store → Come d store n i start r
come d store n i start r rows same within is start_is none whole =
    record {
      at = ap (λ (rs : List Row). slice_get rs i) (sym same) ∙ slice_get-get_or rows i r within ∙ ap (λ x. Some x) (sym is);
      start_is = start_is;
      none = none;
      whole = whole;
    }

named_so : (d : Dictionary) (store : List ℕ) (n : Text) (i start : ℕ) (r : Row) (t : Bool) → start ≡ before d i → bytes_eq (take ((start + r.name) - start) (drop start store)) n ≡ t → row_named n (row_in r (drop (before d i) store)) ≡ t
named_so d store n i start r t e h =
    let long : (start + r.name) - start ≡ r.name = omega arith in
    ap (λ k. bytes_eq (take r.name (drop k store)) n) (sym e) ∙ ap (λ k. bytes_eq (take k (drop start store)) n) (sym long) ∙ h

pub found : (d : Dictionary) (store : List ℕ) (n : Text) (i start : ℕ) (r : Row) → Come d store n i start r → bytes_eq (take ((start + r.name) - start) (drop start store)) n ≡ true → Standing d store n (record { index = i; start = start; row = r })
found d store n i start r come h =
    let there = read d store i r come.at come.whole in
    record {
      first = first_at (row_named n) (rows_in d store) i _ come.none there.there (named_so d store n i start r true come.start_is h);
      at = record { row = come.at; start = come.start_is };
    }

pub passed : (d : Dictionary) (store : List ℕ) (n : Text) (i start : ℕ) (r : Row) → Come d store n i start r → bytes_eq (take ((start + r.name) - start) (drop start store)) n ≡ false → first_place (row_named n) (take (i + 1) (rows_in d store)) ≡ None
passed d store n i start r come h =
    let there = read d store i r come.at come.whole in
    ap (λ k. first_place (row_named n) (take k (rows_in d store))) (add-one i)
    ∙ none_more (row_named n) (rows_in d store) i _ come.none there.there (named_so d store n i start r false come.start_is h)

-- no row at all has the name
pub none_named : (d : Dictionary) (store : List ℕ) (n : Text) (i : ℕ) → length (vec_items d.rows) ≤ i → first_place (row_named n) (take i (rows_in d store)) ≡ None → first_place (row_named n) (rows_in d store) ≡ None
none_named d store n i h none =
    let l : length (rows_in d store) ≡ length (vec_items d.rows) = length_packed row_size row_in (vec_items d.rows) (text_in d store) in
    ap (first_place (row_named n)) (sym (take_all i (rows_in d store) (omega arith))) ∙ none

-- where a row lies
pub record Spot (d : Dictionary) (p : Place) : Type 0 where
  pub index : p.index < vec_len d.rows
  pub within : p.start + row_size p.row ≤ d.row_bytes
  pub used : d.row_bytes ≤ d.used

pub spot : (d : Dictionary) (p : Place) → RowAt d p → Spot d p
spot d p at =
    record {
      index = omega (arith, slice_get_within (vec_items d.rows) p.index p.row at.row, d.rows.ok.0);
      within = omega (arith, sum_next row_size (vec_items d.rows) p.index p.row at.row, sum_by-take-le row_size (vec_items d.rows) (p.index + 1), d.rows_filled, at.start);
      used = omega (arith, d.classes_filled);
    }
