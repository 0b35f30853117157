-- A dictionary whose rows, or whose classes, are edited together with their bytes.
use Rattle.std.proofs.Common.{◌≡◌, ℕ, ◌+◌, ◌-◌, ◌<◌, ◌≤◌, List, [], ◌∷◌, ◌++◌, length, set, take, drop, sym, ap, ◌∙◌, arith, length-drop, length-append, add-one, append_assoc, take-add}
use Rattle.std.specs.Prelude.{vec_items}
use Rattle.std.specs.List.{sum_by, splice, remove}
use Rattle.std.proofs.lemmas.List.{take-append-drop, take_all, drop_all, drop-drop, drop_at, length-take-le, set_split, drop-append-le, take-append-le}
use Rattle.std.proofs.lemmas.List.Sums.{sum_by-append, sum_by-take-le}
use Rattle.machine.specs.Dictionary as machine
use Rattle.dictionary.specs.declared.rows.Row.{Row}
use Rattle.dictionary.specs.declared.dictionary.Dictionary.{Dictionary}
use Rattle.dictionary.specs.Decoding.{packed, row_size, row_in}
use Rattle.dictionary.specs.Meant.{text_in, rows_in}
use Rattle.dictionary.proofs.Packed.{replaced}
use Rattle.dictionary.proofs.Sizes.{rows_framed}
use Rattle.dictionary.proofs.Located.{before}

-- Splices.

pub set_spliced : {X : Type 0} (xs : List X) (i : ℕ) (x : X) → i < length xs → set xs i x ≡ splice xs i (i + 1) (x ∷ [])
set_spliced xs i x h = set_split xs i x h ∙ ap (λ k. splice xs i k (x ∷ [])) (sym (add-one i))

pub remove_spliced : {X : Type 0} (xs : List X) (i : ℕ) → remove xs i ≡ splice xs i (i + 1) []
remove_spliced xs i = ap (λ k. splice xs i k []) (sym (add-one i))

pub push_spliced : {X : Type 0} (xs : List X) (x : X) → xs ++ x ∷ [] ≡ splice xs (length xs) (length xs) (x ∷ [])
push_spliced {X = X} xs x =
    ap (λ (l : List X). l ++ x ∷ []) (sym (take_all (length xs) xs (omega arith)))
    ∙ ap (λ (l : List X). take (length xs) xs ++ (x ∷ l)) (sym (drop_all (length xs) xs (omega arith)))

pub length-splice : {X : Type 0} (xs : List X) (i j : ℕ) (ys : List X) → i ≤ j → j ≤ length xs → length (splice xs i j ys) + j ≡ length xs + length ys + i
length-splice xs i j ys h l =
    omega (arith, length-append (take i xs) (ys ++ drop j xs), length-append ys (drop j xs), length-take-le i xs (omega arith), length-drop j xs)

-- what lies behind a splice
pub drop-splice : {X : Type 0} (xs : List X) (i j : ℕ) (ys : List X) (k : ℕ) → i ≤ length xs → drop (i + length ys + k) (splice xs i j ys) ≡ drop (j + k) xs
drop-splice xs i j ys k l =
    let n : length (take i xs ++ ys) ≡ i + length ys = omega (arith, length-append (take i xs) ys, length-take-le i xs l) in
    ap (drop (i + length ys + k)) (sym (append_assoc (take i xs) ys (drop j xs)))
    ∙ sym (drop-drop k (i + length ys) (take i xs ++ ys ++ drop j xs))
    ∙ ap (drop k) (drop_at (take i xs ++ ys) (drop j xs) (i + length ys) n)
    ∙ drop-drop k j xs

-- a splice within a part is a splice of the part
pub splice_inside : {X : Type 0} (xs : List X) (a n x y : ℕ) (ys : List X) → x ≤ n → y ≤ n → a + n ≤ length xs → splice xs (a + x) (a + y) ys ≡ splice xs a (a + n) (splice (take n (drop a xs)) x y ys)
splice_inside {X = X} xs a n x y ys hx hy l =
    let slot : List X = take n (drop a xs) in
    let whole : drop a xs ≡ slot ++ drop (a + n) xs = sym (take-append-drop n (drop a xs)) ∙ ap (λ (l : List X). slot ++ l) (drop-drop n a xs) in
    let slot_len : length slot ≡ n = length-take-le n (drop a xs) (rw length-drop (omega arith)) in
    let front : take (a + x) xs ≡ take a xs ++ take x slot =
    take-add a x xs ∙ ap (λ (l : List X). take a xs ++ take x l) whole ∙ ap (λ (l : List X). take a xs ++ l) (take-append-le x slot (drop (a + n) xs) (omega arith)) in
    let behind : drop (a + y) xs ≡ drop y slot ++ drop (a + n) xs =
    sym (drop-drop y a xs) ∙ ap (drop y) whole ∙ drop-append-le y slot (drop (a + n) xs) (omega arith) in
    ap (λ (l : List X). l ++ (ys ++ drop (a + y) xs)) front
    ∙ ap (λ (l : List X). take a xs ++ take x slot ++ (ys ++ l)) behind
    ∙ append_assoc (take a xs) (take x slot) (ys ++ (drop y slot ++ drop (a + n) xs))
    ∙ ap (λ (l : List X). take a xs ++ (take x slot ++ l)) (sym (append_assoc ys (drop y slot) (drop (a + n) xs)))
    ∙ ap (λ (l : List X). take a xs ++ l) (sym (append_assoc (take x slot) (ys ++ drop y slot) (drop (a + n) xs)))

pub sum_spliced : {X : Type 0} (f : X → ℕ) (xs : List X) (i j : ℕ) (ys : List X) → sum_by f (splice xs i j ys) + sum_by f (take j xs) ≡ sum_by f xs + sum_by f ys + sum_by f (take i xs)
sum_spliced f xs i j ys =
    let whole : sum_by f xs ≡ sum_by f (take j xs) + sum_by f (drop j xs) = ap (sum_by f) (sym (take-append-drop j xs)) ∙ sum_by-append f (take j xs) (drop j xs) in
    omega (arith, sum_by-append f (take i xs) (ys ++ drop j xs), sum_by-append f ys (drop j xs))

-- Rows and bytes that come of those of a dictionary: what the rows mean, and that the classes are as they were.
pub record Edited (d : Dictionary) (store : List ℕ) (rows : List Row) (row_bytes : ℕ) (text : List ℕ) (meant : List machine.Row) : Type 0 where
  pub rows_are : packed row_size row_in rows text ≡ meant
  pub classes_are : drop row_bytes text ≡ drop d.row_bytes (text_in d store)
  pub filled : row_bytes ≡ sum_by row_size rows

-- the rows from i to j, and their bytes, give way to others
pub edited : (d : Dictionary) (store : List ℕ) (i j : ℕ) (rows fs : List Row) (row_bytes : ℕ) (text bytes : List ℕ) → d.used ≤ length store → i ≤ j → j ≤ length (vec_items d.rows) → sum_by row_size fs ≡ length bytes → rows ≡ splice (vec_items d.rows) i j fs → text ≡ splice (text_in d store) (before d i) (before d j) bytes → row_bytes + before d j ≡ d.row_bytes + length bytes + before d i → Edited d store rows row_bytes text (splice (rows_in d store) i j (packed row_size row_in fs bytes))
edited d store i j rows fs row_bytes text bytes h ij jl filled rows_are text_is size =
    let es : List Row = vec_items d.rows in
    let t : List ℕ = text_in d store in
    let tl : length t ≡ d.used = length-take-le d.used store h in
    let bi : before d i ≤ d.row_bytes = omega (arith, sum_by-take-le row_size es i, d.rows_filled) in
    let bj : before d j ≤ d.row_bytes = omega (arith, sum_by-take-le row_size es j, d.rows_filled) in
    let il : before d i ≤ length t = omega (arith, d.classes_filled) in
    let rest : ℕ = d.row_bytes - before d j in
    record {
      rows_are = ap (λ (es : List Row). packed row_size row_in es text) rows_are
          ∙ ap (packed row_size row_in (splice es i j fs)) text_is
          ∙ replaced row_size row_in i j es fs t bytes rows_framed (omega arith) il filled;
      classes_are = ap (drop row_bytes) text_is
          ∙ ap (λ (k : ℕ). drop k (splice t (before d i) (before d j) bytes)) (let same : row_bytes ≡ before d i + length bytes + rest = omega arith in same)
          ∙ drop-splice t (before d i) (before d j) bytes rest il
          ∙ ap (λ (k : ℕ). drop k t) (let same : before d j + rest ≡ d.row_bytes = omega arith in same);
      filled = omega (arith, sum_spliced row_size es i j fs, ap (sum_by row_size) rows_are, d.rows_filled);
    }
