-- Programs among rows of entries: their strings, one by one, and the first program before the others.
use Rattle.std.proofs.Common.{◌≡◌, ℕ, suc, zero, ◌+◌, ◌<◌, ◌≤◌, Bool, cond, List, [], ◌∷◌, ◌++◌, length, take, drop, None, Some, Option, sym, refl, ap, ◌∙◌, arith, take-add}
use Rattle.std.specs.List.{prefix_len, slice_get, take_while}
use Rattle.std.specs.Option.{option_map}
use Rattle.std.specs.Iterator.{YieldsFirstBy}
use Rattle.std.specs.Str.{bytes_eq}
use Rattle.std.proofs.lemmas.List.{drop-drop, take-append-drop, length-drop}
use Rattle.std.proofs.lemmas.List.Sums.{take_while-cons}
use Rattle.std.proofs.lemmas.Bool.{cond-true, cond-false}
use Rattle.library.specs.Meaning.{Program, program_at, name_at, string_at, strings_of as program_strings}
use Rattle.image.specs.Lines.{joined_by}
use Rattle.image.specs.Contents.{first_entry, entries_of_rows, program_of, text_size, text_sizes, line_at, lines, strings_of, programs_of_rows}
use Rattle.image.specs.Programs.{texts_behind}
use Rattle.image.proofs.Gather.{by_joining, same_name}

pub length_strings : (rows : List (List ℕ)) (ts : List ℕ) → length (strings_of (lines (entries_of_rows rows) ts)) ≡ length rows
length_strings [] ts = refl
length_strings (x ∷ rows) ts = ap suc (length_strings rows (drop (text_size (first_entry x)) ts))

-- The first program among rows, before the others.
abbrev pub same : List ℕ → List ℕ → Bool
same r q = bytes_eq (program_of (first_entry q)) (program_of (first_entry r))

-- a program of row r and of n rows behind it, and the programs of the other rows
abbrev split_after : List ℕ → List (List ℕ) → List ℕ → ℕ → List Program
split_after r rs ts n =
    record { name = program_of (first_entry r); strings = strings_of (lines (first_entry r ∷ entries_of_rows (take n rs)) ts) }
    ∷ programs_of_rows (drop n rs) (drop (text_size (first_entry r) + text_sizes (entries_of_rows (take n rs))) ts)

joins : (r q : List ℕ) (rs : List (List ℕ)) (ts : List ℕ) (k : ℕ) → program_of (first_entry q) ≡ program_of (first_entry r) →
    let us = drop (text_size (first_entry r)) ts in
    record { name = program_of (first_entry q); strings = (line_at (first_entry r) ts).string ∷ strings_of (lines (first_entry q ∷ entries_of_rows (take k rs)) us) }
    ∷ programs_of_rows (drop k rs) (drop (text_size (first_entry q) + text_sizes (entries_of_rows (take k rs))) us)
    ≡ split_after r (q ∷ rs) ts (suc k)
joins r q rs ts k e =
    let us = drop (text_size (first_entry r)) ts in
    let ss = (line_at (first_entry r) ts).string ∷ strings_of (lines (first_entry q ∷ entries_of_rows (take k rs)) us) in
    let size = text_size (first_entry q) + text_sizes (entries_of_rows (take k rs)) in
    ap (λ (n : List ℕ). record { name = n; strings = ss } ∷ programs_of_rows (drop k rs) (drop size us)) e
    ∙ ap (λ (vs : List ℕ). record { name = program_of (first_entry r); strings = ss } ∷ programs_of_rows (drop k rs) vs) (drop-drop size (text_size (first_entry r)) ts)

split : (r : List ℕ) (rs : List (List ℕ)) (ts : List ℕ) → programs_of_rows (r ∷ rs) ts ≡ split_after r rs ts (prefix_len (same r) rs)
split r [] ts = refl
split r (q ∷ rs) ts =
    let l = line_at (first_entry r) ts in
    let us = drop (text_size (first_entry r)) ts in
    let k = prefix_len (same q) rs in
    let size = text_size (first_entry q) + text_sizes (entries_of_rows (take k rs)) in
    let p : Program = record { name = program_of (first_entry q); strings = strings_of (lines (first_entry q ∷ entries_of_rows (take k rs)) us) } in
    ap (joined_by l) (split q rs us)
    ∙ by_joining l p (programs_of_rows (drop k rs) (drop size us)) (λ (gs : List Program). gs ≡ split_after r (q ∷ rs) ts (cond (same r q) (1 + prefix_len (same r) rs) 0))
    (λ t e.
    joins r q rs ts k e
    ∙ ap (split_after r (q ∷ rs) ts)
    (let m : k ≡ prefix_len (same r) rs = ap (λ (n : List ℕ). prefix_len (λ x. bytes_eq (program_of (first_entry x)) n) rs) e in
    let s : suc k ≡ 1 + prefix_len (same r) rs = omega arith in s ∙ sym (cond-true _ _ _ t)))
    (λ f.
    let alone : Program = record { name = l.program; strings = l.string ∷ [] } in
    ap (λ (gs : List Program). alone ∷ gs) (sym (split q rs us))
    ∙ ap (λ (m : ℕ). alone ∷ programs_of_rows (q ∷ rs) (drop m ts)) (omega arith)
    ∙ ap (split_after r (q ∷ rs) ts) (sym (cond-false _ _ _ f)))

-- What an iterator yields is the first item that is left.
pub first_yielded : {S A B : Type 0} (view : A → B) (left : S → List B) (o : Option A) (s t : S) → YieldsFirstBy view left s o t → option_map view o ≡ slice_get (left s) 0
first_yielded view left None s t h = sym (ap (λ xs. slice_get xs 0) h.0)
first_yielded view left (Some x) s t h = sym (ap (λ xs. slice_get xs 0) h)

pub first_behind : {A : Type 0} (n : ℕ) (xs : List A) → slice_get (drop n xs) 0 ≡ slice_get xs n
first_behind zero xs = refl
first_behind (suc n) [] = refl
first_behind (suc n) (x ∷ xs) = first_behind n xs

-- The row at a place, and the string at a place.
pub at_place : (rows : List (List ℕ)) (k : ℕ) (r : List ℕ) → slice_get rows k ≡ Some r → drop k rows ≡ r ∷ drop (suc k) rows
at_place [] k r h = cc
at_place (x ∷ rows) zero r h = let e : x ≡ r = cc in ap (λ (y : List ℕ). y ∷ rows) e
at_place (x ∷ rows) (suc k) r h = at_place rows k r h

-- a row among the first rows is at that place among them all, with the same rows before it
taken : (n : ℕ) (rows : List (List ℕ)) (k : ℕ) (r : List ℕ) → slice_get (take n rows) k ≡ Some r → (take k (take n rows) ≡ take k rows) × (slice_get rows k ≡ Some r)
taken zero rows k r h = cc
taken (suc n) [] k r h = cc
taken (suc n) (x ∷ rows) zero r h = (refl, h)
taken (suc n) (x ∷ rows) (suc k) r h = let rest = taken n rows k r h in (ap (λ (xs : List (List ℕ)). x ∷ xs) rest.0, rest.1)

string_there : (rows : List (List ℕ)) (ts : List ℕ) (k : ℕ) →
    slice_get (strings_of (lines (entries_of_rows rows) ts)) k ≡ option_map (λ (r : List ℕ). (line_at (first_entry r) (texts_behind (take k rows) ts)).string) (slice_get rows k)
string_there [] ts k = refl
string_there (x ∷ rows) ts zero = refl
string_there (x ∷ rows) ts (suc k) =
    string_there rows (drop (text_size (first_entry x)) ts) k
    ∙ ap (λ (us : List ℕ). option_map (λ (r : List ℕ). (line_at (first_entry r) us).string) (slice_get rows k))
    (drop-drop (text_sizes (entries_of_rows (take k rows))) (text_size (first_entry x)) ts)

-- One program after another.
text_sizes-append : (xs ys : List (List ℕ)) → text_sizes (entries_of_rows (xs ++ ys)) ≡ text_sizes (entries_of_rows xs) + text_sizes (entries_of_rows ys)
text_sizes-append [] ys = omega arith
text_sizes-append (x ∷ xs) ys = let s = text_sizes-append xs ys in omega arith

text_sizes-take_more : (i n : ℕ) (rows : List (List ℕ)) → text_sizes (entries_of_rows (take (i + n) rows)) ≡ text_sizes (entries_of_rows (take i rows)) + text_sizes (entries_of_rows (take n (drop i rows)))
text_sizes-take_more i n rows =
    ap (λ (xs : List (List ℕ)). text_sizes (entries_of_rows xs)) (take-add i n rows) ∙ text_sizes-append (take i rows) (take n (drop i rows))

-- the texts of rows lie behind those of the rows before them
pub sizes_within : (rows : List (List ℕ)) (i n : ℕ) →
    text_sizes (entries_of_rows (take i rows)) + text_sizes (entries_of_rows (take n (drop i rows))) ≤ text_sizes (entries_of_rows rows)
sizes_within rows i n =
    let front = text_sizes-take_more i n rows in
    let whole = ap (λ (xs : List (List ℕ)). text_sizes (entries_of_rows xs)) (take-append-drop (i + n) rows) in
    let parts = text_sizes-append (take (i + n) rows) (drop (i + n) rows) in
    omega arith

pub next_program : (rows : List (List ℕ)) (ts : List ℕ) (i n : ℕ) (r : List ℕ) (rs : List (List ℕ)) → drop i rows ≡ r ∷ rs → n ≡ 1 + prefix_len (same r) rs →
    programs_of_rows (drop i rows) (texts_behind (take i rows) ts)
    ≡ record { name = program_of (first_entry r); strings = strings_of (lines (entries_of_rows (take n (drop i rows))) (texts_behind (take i rows) ts)) }
    ∷ programs_of_rows (drop (i + n) rows) (texts_behind (take (i + n) rows) ts)
next_program rows ts i n r rs e m =
    let us = texts_behind (take i rows) ts in
    let k = prefix_len (same r) rs in
    let size = λ (xs : List (List ℕ)). text_sizes (entries_of_rows xs) in
    let p : List (List ℕ) → Program = λ xs. record { name = program_of (first_entry r); strings = strings_of (lines (entries_of_rows xs) us) } in
    let one : suc k ≡ n = omega arith in
    let past : i + suc k ≡ i + n = omega arith in
    let own : r ∷ take k rs ≡ take n (drop i rows) = ap (take (suc k)) (sym e) ∙ ap (λ (j : ℕ). take j (drop i rows)) one in
    let others : drop k rs ≡ drop (i + n) rows = ap (drop (suc k)) (sym e) ∙ drop-drop (suc k) i rows ∙ ap (λ (j : ℕ). drop j rows) past in
    ap (λ (xs : List (List ℕ)). programs_of_rows xs us) e
    ∙ split r rs us
    ∙ ap (λ (xs : List (List ℕ)). p xs ∷ programs_of_rows (drop k rs) (drop (size xs) us)) own
    ∙ ap (λ (xs : List (List ℕ)). p (take n (drop i rows)) ∷ programs_of_rows xs (drop (size (take n (drop i rows))) us)) others
    ∙ ap (λ (vs : List ℕ). p (take n (drop i rows)) ∷ programs_of_rows (drop (i + n) rows) vs)
    (drop-drop (size (take n (drop i rows))) (size (take i rows)) ts ∙ ap (λ (j : ℕ). drop j ts) (sym (text_sizes-take_more i n rows)))

-- The first program alone: the name of the first row, and the strings of the rows up to the first of another name.
abbrev pub of_name : List ℕ → List ℕ → Bool
of_name n r = bytes_eq (program_of (first_entry r)) n

abbrev first_named : List (List ℕ) → List ℕ → ℕ → List ℕ → Program
first_named rows ts i n = record { name = n; strings = strings_of (lines (entries_of_rows (take_while (of_name n) (drop i rows))) (texts_behind (take i rows) ts)) }

abbrev left_from : List (List ℕ) → List ℕ → ℕ → List Program
left_from rows ts i = programs_of_rows (drop i rows) (texts_behind (take i rows) ts)

pub first_program : (rows : List (List ℕ)) (ts : List ℕ) (i : ℕ) (r : List ℕ) (rs : List (List ℕ)) → drop i rows ≡ r ∷ rs →
    slice_get (left_from rows ts i) 0 ≡ Some (first_named rows ts i (program_of (first_entry r)))
first_program rows ts i r rs e =
    let us = texts_behind (take i rows) ts in
    let p : List (List ℕ) → Program = λ xs. record { name = program_of (first_entry r); strings = strings_of (lines (entries_of_rows xs) us) } in
    let k = prefix_len (same r) rs in
    let own : take (suc k) (drop i rows) ≡ take_while (same r) (drop i rows) =
    ap (take (suc k)) e ∙ sym (take_while-cons (same r) r rs ∙ cond-true _ _ _ (same_name (program_of (first_entry r)))) ∙ ap (take_while (same r)) (sym e) in
    ap (λ (ps : List Program). slice_get ps 0) (next_program rows ts i (suc k) r rs e (omega arith))
    ∙ ap (λ (xs : List (List ℕ)). Some (p xs)) own

first_of_name : (rows : List (List ℕ)) (ts : List ℕ) (i : ℕ) (n : List ℕ) → Some n ≡ name_at (left_from rows ts i) 0 → program_at (left_from rows ts i) 0 ≡ Some (first_named rows ts i n)
first_of_name rows ts i n h = by (drop i rows) refl
  where
    by : (xs : List (List ℕ)) → drop i rows ≡ xs → program_at (left_from rows ts i) 0 ≡ Some (first_named rows ts i n)
    by [] e =
        let none : name_at (left_from rows ts i) 0 ≡ None = ap (λ (ys : List (List ℕ)). name_at (programs_of_rows ys (texts_behind (take i rows) ts)) 0) e in
        cc
    by (r ∷ rs) e =
        let first = first_program rows ts i r rs e in
        let named : name_at (left_from rows ts i) 0 ≡ Some (program_of (first_entry r)) = ap (option_map (λ (p : Program). p.name)) first in
        let m : program_of (first_entry r) ≡ n = cc in
        first ∙ ap (λ (name : List ℕ). Some (first_named rows ts i name)) m

-- one of its strings, by what is found among the rows that are left: none, or a row at its place
module _ (rows : List (List ℕ)) (ts : List ℕ) (i : ℕ) (left : List (List ℕ)) (n : List ℕ) (k : ℕ) (at : left ≡ drop i rows) where
  sought : (o : Option (List ℕ)) → o ≡ slice_get (take_while (of_name n) left) k → slice_get (take_while (of_name n) (drop i rows)) k ≡ o
  sought o e = ap (λ (xs : List (List ℕ)). slice_get (take_while (of_name n) xs) k) (sym at) ∙ sym e

  string_of_first : Some n ≡ name_at (left_from rows ts i) 0 → (o : Option (List ℕ)) → o ≡ slice_get (take_while (of_name n) left) k →
      string_at (left_from rows ts i) 0 k ≡ option_map (λ (r : List ℕ). (line_at (first_entry r) (texts_behind (take k (take_while (of_name n) (drop i rows))) (texts_behind (take i rows) ts))).string) o
  string_of_first h o e =
      let own = take_while (of_name n) (drop i rows) in
      let us = texts_behind (take i rows) ts in
      ap (λ (p : Option Program). slice_get (program_strings p) k) (first_of_name rows ts i n h)
      ∙ string_there own us k
      ∙ ap (option_map (λ (r : List ℕ). (line_at (first_entry r) (texts_behind (take k own) us)).string)) (sought o e)

  pub string_past : Some n ≡ name_at (left_from rows ts i) 0 → None ≡ slice_get (take_while (of_name n) left) k → string_at (left_from rows ts i) 0 k ≡ None
  string_past h e = string_of_first h None e

  pub string_found : Some n ≡ name_at (left_from rows ts i) 0 → (r : List ℕ) → Some r ≡ slice_get (take_while (of_name n) left) k →
      string_at (left_from rows ts i) 0 k ≡ Some (line_at (first_entry r) (texts_behind (take (i + k) rows) ts)).string
  string_found h r e =
      let us = texts_behind (take i rows) ts in
      string_of_first h (Some r) e
      ∙ ap (λ (xs : List (List ℕ)). Some (line_at (first_entry r) (texts_behind xs us)).string) (taken (prefix_len (of_name n) (drop i rows)) (drop i rows) k r (sought (Some r) e)).0
      ∙ ap (λ (vs : List ℕ). Some (line_at (first_entry r) vs).string)
      (drop-drop (text_sizes (entries_of_rows (take k (drop i rows)))) (text_sizes (entries_of_rows (take i rows))) ts
      ∙ ap (λ (m : ℕ). drop m ts) (sym (text_sizes-take_more i k rows)))

  -- that place is among the rows, and the row's texts lie within the texts
  pub place_found : (r : List ℕ) → Some r ≡ slice_get (take_while (of_name n) left) k →
      (i + k < length rows) × (text_sizes (entries_of_rows (take (i + k) rows)) + text_size (first_entry r) ≤ text_sizes (entries_of_rows rows))
  place_found r e =
      let here : drop (i + k) rows ≡ r ∷ drop (suc k) (drop i rows) =
      sym (drop-drop k i rows) ∙ at_place (drop i rows) k r (taken (prefix_len (of_name n) (drop i rows)) (drop i rows) k r (sought (Some r) e)).1 in
      let one : text_sizes (entries_of_rows (take 1 (drop (i + k) rows))) ≡ text_size (first_entry r) + 0 = ap (λ (xs : List (List ℕ)). text_sizes (entries_of_rows (take 1 xs))) here in
      (omega (arith, ap length here, length-drop (i + k) rows), omega (arith, sizes_within rows (i + k) 1, one))
