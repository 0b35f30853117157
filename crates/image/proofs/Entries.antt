-- Entries and their 25 bytes, lines and their texts: each gives the other back.
use Rattle.std.proofs.Common.{◌≡◌, ℕ, zero, suc, ◌+◌, ◌-◌, ◌*◌, ◌/◌, ◌%◌, ◌<◌, ◌≤◌, Bool, true, eqb, leb, List, [], ◌∷◌, ◌++◌, map, length, get_or, take, drop, replicate, sym, refl, ap, ◌∙◌, subst, div-add-mod', arith, take-add}
use lib.Arith.{digits_div, digits_mod}
use Rattle.std.specs.List.{flat_map, list_all}
use Rattle.std.specs.Simd.{first_chunks}
use Rattle.std.proofs.lemmas.List.{append_assoc, length-append, length-take-le, length-drop, take_at, drop_at, drop-drop, drop_more, drop-take, take-take, get_or-take, get_or-append_right, take-append-drop}
use Rattle.std.proofs.lemmas.Bool.{and_parts, and_from, eqb-true, eq-eqb, leb-true, le-leb}
use Rattle.code.specs.Meaning.{within}
use Rattle.image.specs.Lines.{Line, line}
use Rattle.image.specs.Layout.{Entry, entry_for, entry_bytes, text_bytes, two_bytes}
use Rattle.image.specs.Contents.{first_entry, entries, entries_of_rows, program_of, text_size, text_sizes, line_at, lines}
use Rattle.image.specs.Questions.{well_named}
use Rattle.image.proofs.Gather.{program_of_line, name_fits}

-- the bytes from entry i on
abbrev pub from_entry : ℕ → List ℕ → List ℕ
from_entry i bs = drop (25 * i) bs

-- the lengths at the front of bytes are written in bytes
pub record Small (bs : List ℕ) : Type 0 where
  pub name_high : get_or bs 21 0 < 256
  pub name_low : get_or bs 22 0 < 256
  pub body_high : get_or bs 23 0 < 256
  pub body_low : get_or bs 24 0 < 256

-- the program's name has its 20 bytes
abbrev pub whole : Entry → Bool
whole e = eqb (length e.program_field) 20

-- 1. An entry from its bytes.
length_entry_bytes : (e : Entry) → length e.program_field ≡ 20 → length (entry_bytes e) ≡ 25
length_entry_bytes e h = ap suc (length-append e.program_field (two_bytes e.name_length ++ two_bytes e.body_length) ∙ ap (λ (k : ℕ). k + 4) h)

entry_same : (p p' : ℕ) (f f' : List ℕ) (n n' b b' : ℕ) → p ≡ p' → f ≡ f' → n ≡ n' → b ≡ b' →
    ◌≡◌ {A = Entry} (record { program_length = p; program_field = f; name_length = n; body_length = b }) (record { program_length = p'; program_field = f'; name_length = n'; body_length = b' })
entry_same p p' f f' n n' b b' w x y z = cc

first_of_bytes : (e : Entry) (rest : List ℕ) → length e.program_field ≡ 20 → first_entry (entry_bytes e ++ rest) ≡ e
first_of_bytes e rest h =
    let f = e.program_field in
    let four = two_bytes e.name_length ++ two_bytes e.body_length in
    let w = four ++ rest in
    ap (λ (ys : List ℕ). first_entry (e.program_length ∷ ys)) (append_assoc f four rest)
    ∙ entry_same _ e.program_length _ f _ e.name_length _ e.body_length refl
    (take_at f w 20 h)
    (two e.name_length _ _ (get_or-append_right f w 20 20 0 h (omega arith)) (get_or-append_right f w 20 21 0 h (omega arith)))
    (two e.body_length _ _ (get_or-append_right f w 20 22 0 h (omega arith)) (get_or-append_right f w 20 23 0 h (omega arith)))
  where
    two : (n x y : ℕ) → x ≡ n / 256 → y ≡ n % 256 → x * 256 + y ≡ n
    two n x y p q = ap (λ (k : ℕ). k * 256 + y) p ∙ ap (λ (k : ℕ). n / 256 * 256 + k) q ∙ div-add-mod' n 256

whole_length : (e : Entry) → whole e ≡ true → length e.program_field ≡ 20
whole_length e t = eqb-true (length e.program_field) 20 t

pub entries_of_bytes : (es : List Entry) (rest : List ℕ) → list_all whole es ≡ true → entries (length es) (flat_map entry_bytes es ++ rest) ≡ es
entries_of_bytes [] rest t = refl
entries_of_bytes (e ∷ es) rest t =
    let p = and_parts (whole e) (list_all whole es) t in
    let h = whole_length e p.0 in
    let r = flat_map entry_bytes es ++ rest in
    ap (entries (suc (length es))) (append_assoc (entry_bytes e) (flat_map entry_bytes es) rest)
    ∙ ap (λ (x : Entry). x ∷ entries (length es) (drop 25 (entry_bytes e ++ r))) (first_of_bytes e r h)
    ∙ ap (λ (ys : List ℕ). e ∷ entries (length es) ys) (drop_at (entry_bytes e) r 25 (length_entry_bytes e h))
    ∙ ap (λ (xs : List Entry). e ∷ xs) (entries_of_bytes es rest p.1)

pub length_entries_bytes : (es : List Entry) → list_all whole es ≡ true → length (flat_map entry_bytes es) ≡ 25 * length es
length_entries_bytes [] t = refl
length_entries_bytes (e ∷ es) t =
    let p = and_parts (whole e) (list_all whole es) t in
    let a : length (entry_bytes e) ≡ 25 = length_entry_bytes e (whole_length e p.0) in
    let b : length (flat_map entry_bytes es) ≡ 25 * length es = length_entries_bytes es p.1 in
    length-append (entry_bytes e) (flat_map entry_bytes es) ∙ omega (arith, a, b)

-- 2. The bytes of an entry that was read. Two bytes make a number and are found in it again, the low one being a byte.
bytes_of_first : (bs : List ℕ) → 25 ≤ length bs → Small bs → entry_bytes (first_entry bs) ≡ take 25 bs
bytes_of_first bs h s =
    ap (λ (ys : List ℕ). get_or bs 0 0 ∷ take 20 (drop 1 bs) ++ ys) (four_same _ _ _ _ _ _ _ _
    (digits_div (get_or bs 21 0) s.name_low) (digits_mod (get_or bs 21 0) s.name_low)
    (digits_div (get_or bs 23 0) s.body_low) (digits_mod (get_or bs 23 0) s.body_low))
    ∙ sym (ap (take 25) (drop_more bs 0 0 (omega arith))
    ∙ ap (λ (ys : List ℕ). get_or bs 0 0 ∷ ys) (take-add 20 4 (drop 1 bs) ∙ ap (λ (ys : List ℕ). take 20 (drop 1 bs) ++ ys) four))
  where
    four_same : (a a' b b' c c' d d' : ℕ) → a ≡ a' → b ≡ b' → c ≡ c' → d ≡ d' → ◌≡◌ {A = List ℕ} (a ∷ b ∷ c ∷ d ∷ []) (a' ∷ b' ∷ c' ∷ d' ∷ [])
    four_same a a' b b' c c' d d' x y z w = cc

    four : take 4 (drop 20 (drop 1 bs)) ≡ get_or bs 21 0 ∷ get_or bs 22 0 ∷ get_or bs 23 0 ∷ get_or bs 24 0 ∷ []
    four = ap (take 4) (drop-drop 20 1 bs
        ∙ drop_more bs 21 0 (omega arith)
        ∙ ap (λ (ys : List ℕ). get_or bs 21 0 ∷ ys) (drop_more bs 22 0 (omega arith)
        ∙ ap (λ (ys : List ℕ). get_or bs 22 0 ∷ ys) (drop_more bs 23 0 (omega arith)
        ∙ ap (λ (ys : List ℕ). get_or bs 23 0 ∷ ys) (drop_more bs 24 0 (omega arith)))))

pub small_rest : (n : ℕ) (bs : List ℕ) → ((i : ℕ) → i < suc n → Small (from_entry i bs)) → (i : ℕ) → i < n → Small (from_entry i (drop 25 bs))
small_rest n bs s i h =
    let e : drop (25 * i) (drop 25 bs) ≡ drop (25 * suc i) bs = drop-drop (25 * i) 25 bs ∙ ap (λ (k : ℕ). drop k bs) (omega arith) in
    subst (λ (xs : List ℕ). Small xs) (sym e) (s (suc i) (omega arith))

rest_long : (n : ℕ) (bs : List ℕ) → 25 * suc n ≤ length bs → 25 * n ≤ length (drop 25 bs)
rest_long n bs h = simp length-drop (omega arith)

pub bytes_of_entries : (n : ℕ) (bs : List ℕ) → 25 * n ≤ length bs → ((i : ℕ) → i < n → Small (from_entry i bs)) → flat_map entry_bytes (entries n bs) ≡ take (25 * n) bs
bytes_of_entries zero bs h s = refl
bytes_of_entries (suc n) bs h s =
    let k : 25 + 25 * n ≡ 25 * suc n = omega arith in
    ap (λ (xs : List ℕ). xs ++ flat_map entry_bytes (entries n (drop 25 bs))) (bytes_of_first bs (omega arith) (s 0 (omega arith)))
    ∙ ap (λ (xs : List ℕ). take 25 bs ++ xs) (bytes_of_entries n (drop 25 bs) (rest_long n bs h) (small_rest n bs s))
    ∙ sym (take-add 25 (25 * n) bs)
    ∙ ap (λ (m : ℕ). take m bs) k

pub whole_entries : (n : ℕ) (bs : List ℕ) → 25 * n ≤ length bs → list_all whole (entries n bs) ≡ true
whole_entries zero bs h = refl
whole_entries (suc n) bs h =
    and_from (whole (first_entry bs)) (list_all whole (entries n (drop 25 bs)))
    (eq-eqb _ 20 (length-take-le 20 (drop 1 bs) (simp length-drop (omega arith)))) (whole_entries n (drop 25 bs) (rest_long n bs h))

pub length_entries : (n : ℕ) (bs : List ℕ) → length (entries n bs) ≡ n
length_entries zero bs = refl
length_entries (suc n) bs = ap suc (length_entries n (drop 25 bs))

-- 3. Lines from their entries and texts.
line_same : (p p' n n' b b' : List ℕ) → p ≡ p' → n ≡ n' → b ≡ b' →
    ◌≡◌ {A = Line} (line p (record { name = n; body = b })) (line p' (record { name = n'; body = b' }))
line_same p p' n n' b b' x y z = cc

line_of_texts : (l : Line) (rest : List ℕ) → line_at (entry_for l) (text_bytes l ++ rest) ≡ l
line_of_texts l rest =
    let n = l.string.name in
    let b = l.string.body in
    ap (line_at (entry_for l)) (append_assoc n b rest)
    ∙ line_same _ l.program _ n _ b
    (take_at l.program (replicate (20 - length l.program) 0) (length l.program) refl)
    (take_at n (b ++ rest) (length n) refl)
    (ap (take (length b)) (drop_at n (b ++ rest) (length n) refl) ∙ take_at b rest (length b) refl)

pub lines_of_texts : (ls : List Line) → lines (map entry_for ls) (flat_map text_bytes ls) ≡ ls
lines_of_texts [] = refl
lines_of_texts (l ∷ ls) =
    let r = flat_map text_bytes ls in
    ap (λ (x : Line). x ∷ lines (map entry_for ls) (drop (text_size (entry_for l)) (text_bytes l ++ r))) (line_of_texts l r)
    ∙ ap (λ (ts : List ℕ). l ∷ lines (map entry_for ls) ts) (drop_at (text_bytes l) r (text_size (entry_for l)) (length-append l.string.name l.string.body))
    ∙ ap (λ (xs : List Line). l ∷ xs) (lines_of_texts ls)

pub texts_size : (ls : List Line) → text_sizes (map entry_for ls) ≡ length (flat_map text_bytes ls)
texts_size [] = refl
texts_size (l ∷ ls) =
    ap (λ (k : ℕ). text_size (entry_for l) + k) (texts_size ls)
    ∙ sym (length-append (text_bytes l) (flat_map text_bytes ls) ∙ ap (λ (k : ℕ). k + length (flat_map text_bytes ls)) (length-append l.string.name l.string.body))

-- 4. Entries and texts from the lines that were read.
pub texts_of_lines : (es : List Entry) (ts : List ℕ) → flat_map text_bytes (lines es ts) ≡ take (text_sizes es) ts
texts_of_lines [] ts = refl
texts_of_lines (e ∷ es) ts =
    ap (λ (xs : List ℕ). xs ++ flat_map text_bytes (lines es (drop (text_size e) ts))) (sym (take-add e.name_length e.body_length ts))
    ∙ ap (λ (xs : List ℕ). take (text_size e) ts ++ xs) (texts_of_lines es (drop (text_size e) ts))
    ∙ sym (take-add (text_size e) (text_sizes es) ts)

zeros_only : (xs : List ℕ) → list_all (λ b. eqb b 0) xs ≡ true → xs ≡ replicate (length xs) 0
zeros_only [] t = refl
zeros_only (x ∷ xs) t =
    let p = and_parts (eqb x 0) (list_all (λ b. eqb b 0) xs) t in
    let z : x ≡ 0 = eqb-true x 0 p.0 in
    ap (λ (k : ℕ). k ∷ xs) z ∙ ap (λ (ys : List ℕ). 0 ∷ ys) (zeros_only xs p.1)

name_bounds : (e : Entry) → well_named e ≡ true → (1 ≤ e.program_length) × (e.program_length ≤ 20)
name_bounds e t =
    let p = and_parts (within 1 20 e.program_length) (list_all (λ b. eqb b 0) (drop e.program_length e.program_field)) t in
    let q = and_parts (leb 1 e.program_length) (leb e.program_length 20) p.0 in
    (leb-true _ _ q.0, leb-true _ _ q.1)

filled_with_zeros : (n : ℕ) (f : List ℕ) → n ≤ 20 → length f ≡ 20 → list_all (λ b. eqb b 0) (drop n f) ≡ true → take n f ++ replicate (20 - length (take n f)) 0 ≡ f
filled_with_zeros n f h l z =
    let a : length (take n f) ≡ n = length-take-le n f (omega arith) in
    let b : 20 - length (take n f) ≡ length (drop n f) = ap (λ (k : ℕ). 20 - k) a ∙ sym (length-drop n f ∙ ap (λ (k : ℕ). k - n) l) in
    ap (λ (k : ℕ). take n f ++ replicate k 0) b
    ∙ ap (λ (xs : List ℕ). take n f ++ xs) (sym (zeros_only (drop n f) z))
    ∙ take-append-drop n f

entry_of_line : (e : Entry) (ts : List ℕ) → whole e ≡ true → well_named e ≡ true → text_size e ≤ length ts → entry_for (line_at e ts) ≡ e
entry_of_line e ts w t h =
    let l = whole_length e w in
    let b = name_bounds e t in
    let z = (and_parts (within 1 20 e.program_length) (list_all (λ b. eqb b 0) (drop e.program_length e.program_field)) t).1 in
    entry_same _ e.program_length _ e.program_field _ e.name_length _ e.body_length
    (length-take-le e.program_length e.program_field (omega (arith, l, b.1)))
    (filled_with_zeros e.program_length e.program_field b.1 l z)
    (length-take-le e.name_length ts (omega arith))
    (length-take-le e.body_length (drop e.name_length ts) (simp length-drop (omega arith)))

pub entries_of_lines : (es : List Entry) (ts : List ℕ) → list_all whole es ≡ true → list_all well_named es ≡ true → text_sizes es ≤ length ts → map entry_for (lines es ts) ≡ es
entries_of_lines [] ts w t h = refl
entries_of_lines (e ∷ es) ts w t h =
    let p = and_parts (whole e) (list_all whole es) w in
    let q = and_parts (well_named e) (list_all well_named es) t in
    ap (λ (x : Entry). x ∷ map entry_for (lines es (drop (text_size e) ts))) (entry_of_line e ts p.0 q.0 (omega arith))
    ∙ ap (λ (xs : List Entry). e ∷ xs) (entries_of_lines es (drop (text_size e) ts) p.1 q.1 (simp length-drop (omega arith)))

-- 5. Names and lengths of lines.
pub programs_of_lines : (es : List Entry) (ts : List ℕ) → map program_of_line (lines es ts) ≡ map program_of es
programs_of_lines [] ts = refl
programs_of_lines (e ∷ es) ts = ap (λ (ns : List (List ℕ)). program_of e ∷ ns) (programs_of_lines es (drop (text_size e) ts))

pub length_lines : (es : List Entry) (ts : List ℕ) → length (lines es ts) ≡ length es
length_lines [] ts = refl
length_lines (e ∷ es) ts = ap suc (length_lines es (drop (text_size e) ts))

pub names_fit : (es : List Entry) → list_all whole es ≡ true → list_all well_named es ≡ true → list_all name_fits (map program_of es) ≡ true
names_fit [] w t = refl
names_fit (e ∷ es) w t =
    let p = and_parts (whole e) (list_all whole es) w in
    let q = and_parts (well_named e) (list_all well_named es) t in
    let b = name_bounds e q.0 in
    let a : length (program_of e) ≡ e.program_length = length-take-le e.program_length e.program_field (omega (arith, whole_length e p.0, b.1)) in
    and_from (name_fits (program_of e)) (list_all name_fits (map program_of es))
    (and_from _ _ (le-leb 1 (length (program_of e)) (omega (arith, a, b.0))) (le-leb (length (program_of e)) 20 (omega (arith, a, b.1))))
    (names_fit es p.1 q.1)

-- 6. The contents as rows of 25 bytes.
-- an entry is read from its own 25 bytes
first_of_row : (bs : List ℕ) → first_entry (take 25 bs) ≡ first_entry bs
first_of_row bs =
    entry_same _ _ _ _ _ _ _ _
    (get_or-take 25 bs 0 0 (omega arith))
    (ap (take 20) (drop-take 1 24 bs) ∙ take-take 20 24 (drop 1 bs) (omega arith))
    (ap (λ (k : ℕ). k * 256 + get_or (take 25 bs) 22 0) (get_or-take 25 bs 21 0 (omega arith)) ∙ ap (λ (k : ℕ). get_or bs 21 0 * 256 + k) (get_or-take 25 bs 22 0 (omega arith)))
    (ap (λ (k : ℕ). k * 256 + get_or (take 25 bs) 24 0) (get_or-take 25 bs 23 0 (omega arith)) ∙ ap (λ (k : ℕ). get_or bs 23 0 * 256 + k) (get_or-take 25 bs 24 0 (omega arith)))

pub entries-chunks : (n : ℕ) (bs : List ℕ) → entries_of_rows (first_chunks 25 n bs) ≡ entries n bs
entries-chunks zero bs = refl
entries-chunks (suc n) bs =
    ap (λ (e : Entry). e ∷ entries_of_rows (first_chunks 25 n (drop 25 bs))) (first_of_row bs) ∙ ap (λ (es : List Entry). first_entry bs ∷ es) (entries-chunks n (drop 25 bs))
