-- What is read of packed rows.
use Rattle.std.proofs.Common.{◌≡◌, ℕ, zero, suc, ◌+◌, ◌-◌, ◌≤◌, List, [], ◌∷◌, ◌++◌, length, take, drop, Some, sym, refl, ap, ◌∙◌, arith, length-drop}
use Rattle.std.specs.List.{slice_get}
use Rattle.std.specs.Option.{option_map}
use Rattle.std.proofs.lemmas.List.{drop-drop, take-append-le, drop-append-le, nil_from_length, take_rest}
use Rattle.std.proofs.lemmas.List.Sums.{sum_by-cons, sum_by-take-le}
use Rattle.library.specs.Meaning.{NamedString, Program}
use Rattle.shelf.specs.declared.rows.ProgramRow.{ProgramRow}
use Rattle.shelf.specs.declared.rows.StringRow.{StringRow}
use Rattle.shelf.specs.Decoding.{string_count, name_sizes, text_sizes, sizes, strings_in, program_in, decoded}
use Rattle.shelf.specs.Places.{first_string, first_byte}
use Rattle.shelf.proofs.Totals.{sum_split, sum_part, sum_next}

abbrev pub row_strings : ProgramRow → ℕ
row_strings p = p.strings

abbrev pub row_name : ProgramRow → ℕ
row_name p = p.name

abbrev pub row_text : StringRow → ℕ
row_text s = s.name + s.body

abbrev pub program_parts : List ℕ → List NamedString → Program
program_parts name strings = record { name = name; strings = strings }

abbrev pub string_parts : List ℕ → List ℕ → NamedString
string_parts name body = record { name = name; body = body }

-- what is first behind n elements
slice_get-drop : {X : Type 0} (n : ℕ) (xs : List X) → slice_get xs n ≡ slice_get (drop n xs) 0
slice_get-drop zero xs = refl
slice_get-drop (suc n) [] = refl
slice_get-drop (suc n) (x ∷ xs) = slice_get-drop n xs

pub length_decoded : (ps : List ProgramRow) (ss : List StringRow) (bs : List ℕ) → length (decoded ps ss bs) ≡ length ps
length_decoded [] ss bs = refl
length_decoded (p ∷ ps) ss bs =
    ap suc (length_decoded ps (drop p.strings ss) (drop (p.name + text_sizes (take p.strings ss)) bs))

pub length_strings : (ss : List StringRow) (bs : List ℕ) → length (strings_in ss bs) ≡ length ss
length_strings [] bs = refl
length_strings (s ∷ ss) bs = ap suc (length_strings ss (drop (s.name + s.body) bs))

-- the programs from p on
pub drop_decoded : (p : ℕ) (ps : List ProgramRow) (ss : List StringRow) (bs : List ℕ) → drop p (decoded ps ss bs) ≡ decoded (drop p ps) (drop (first_string p ps) ss) (drop (first_byte p ps ss) bs)
drop_decoded zero ps ss bs = refl
drop_decoded (suc k) [] ss bs = refl
drop_decoded (suc k) (p ∷ ps) ss bs =
    let c = p.strings in
    let t : ℕ = text_sizes (take c ss) in
    let f : ℕ = string_count (take k ps) in
    let m : ℕ = name_sizes (take k ps) in
    let u : ℕ = text_sizes (take f (drop c ss)) in
    let F : ℕ = string_count (p ∷ take k ps) in
    let M : ℕ = name_sizes (p ∷ take k ps) in
    let strings : F ≡ c + f = sum_by-cons row_strings p (take k ps) in
    let names : M ≡ p.name + m = sum_by-cons row_name p (take k ps) in
    let texts : text_sizes (take F ss) ≡ t + u = ap (λ (j : ℕ). text_sizes (take j ss)) strings ∙ sum_part row_text c f ss in
    let same : (p.name + t) + (m + u) ≡ M + text_sizes (take F ss) = omega arith in
    drop_decoded k ps (drop c ss) (drop (p.name + t) bs)
    ∙ ap (λ (x : List StringRow). decoded (drop k ps) x (drop (m + u) (drop (p.name + t) bs))) (drop-drop f c ss ∙ ap (λ (j : ℕ). drop j ss) (sym strings))
    ∙ ap (λ (x : List ℕ). decoded (drop k ps) (drop F ss) x)
    (drop-drop (m + u) (p.name + t) bs ∙ ap (λ (j : ℕ). drop j bs) same)

-- program p, if there is one
pub nth_decoded : (p : ℕ) (ps : List ProgramRow) (ss : List StringRow) (bs : List ℕ) → slice_get (decoded ps ss bs) p ≡ option_map (λ (r : ProgramRow). program_in r (drop (first_string p ps) ss) (drop (first_byte p ps ss) bs)) (slice_get ps p)
nth_decoded p ps ss bs =
    slice_get-drop p (decoded ps ss bs)
    ∙ ap (λ (x : List Program). slice_get x 0) (drop_decoded p ps ss bs)
    ∙ first (drop p ps) (drop (first_string p ps) ss) (drop (first_byte p ps ss) bs)
    ∙ ap (option_map (λ (r : ProgramRow). program_in r (drop (first_string p ps) ss) (drop (first_byte p ps ss) bs))) (sym (slice_get-drop p ps))
  where
    first : (qs : List ProgramRow) (ts : List StringRow) (cs : List ℕ) → slice_get (decoded qs ts cs) 0 ≡ option_map (λ (r : ProgramRow). program_in r ts cs) (slice_get qs 0)
    first [] ts cs = refl
    first (q ∷ qs) ts cs = refl

-- the strings from s on
drop_strings : (s : ℕ) (ss : List StringRow) (bs : List ℕ) → drop s (strings_in ss bs) ≡ strings_in (drop s ss) (drop (text_sizes (take s ss)) bs)
drop_strings zero ss bs = refl
drop_strings (suc k) [] bs = refl
drop_strings (suc k) (s ∷ ss) bs =
    let texts : text_sizes (s ∷ take k ss) ≡ row_text s + text_sizes (take k ss) = sum_by-cons row_text s (take k ss) in
    drop_strings k ss (drop (s.name + s.body) bs)
    ∙ ap (λ (x : List ℕ). strings_in (drop k ss) x) (drop-drop (text_sizes (take k ss)) (s.name + s.body) bs ∙ ap (λ (j : ℕ). drop j bs) (sym texts))

-- a string at the front of the bytes
abbrev pub string_in : StringRow → List ℕ → NamedString
string_in s bs = record { name = take s.name bs; body = take s.body (drop s.name bs) }

-- string s, if there is one
pub nth_strings : (s : ℕ) (ss : List StringRow) (bs : List ℕ) → slice_get (strings_in ss bs) s ≡ option_map (λ (r : StringRow). string_in r (drop (text_sizes (take s ss)) bs)) (slice_get ss s)
nth_strings s ss bs =
    slice_get-drop s (strings_in ss bs)
    ∙ ap (λ (x : List NamedString). slice_get x 0) (drop_strings s ss bs)
    ∙ first (drop s ss) (drop (text_sizes (take s ss)) bs)
    ∙ ap (option_map (λ (r : StringRow). string_in r (drop (text_sizes (take s ss)) bs))) (sym (slice_get-drop s ss))
  where
    first : (ts : List StringRow) (cs : List ℕ) → slice_get (strings_in ts cs) 0 ≡ option_map (λ (r : StringRow). string_in r cs) (slice_get ts 0)
    first [] cs = refl
    first (t ∷ ts) cs = refl

-- more bytes behind do not matter
pub strings_append : (ss : List StringRow) (bs cs : List ℕ) → text_sizes ss ≤ length bs → strings_in ss (bs ++ cs) ≡ strings_in ss bs
strings_append [] bs cs h = refl
strings_append (s ∷ ss) bs cs h =
    let n = s.name in
    let b = s.body in
    let texts : text_sizes (s ∷ ss) ≡ n + b + text_sizes ss = sum_by-cons row_text s ss in
    let hn : n ≤ length bs = omega arith in
    let hb : b ≤ length (drop n bs) = rw length-drop (omega arith) in
    let hs : n + b ≤ length bs = omega arith in
    let hr : text_sizes ss ≤ length (drop (n + b) bs) = rw length-drop (omega arith) in
    let e1 : take n (bs ++ cs) ≡ take n bs = take-append-le n bs cs hn in
    let e2 : take b (drop n (bs ++ cs)) ≡ take b (drop n bs) = ap (take b) (drop-append-le n bs cs hn) ∙ take-append-le b (drop n bs) cs hb in
    let e3 : strings_in ss (drop (n + b) (bs ++ cs)) ≡ strings_in ss (drop (n + b) bs) =
    ap (strings_in ss) (drop-append-le (n + b) bs cs hs) ∙ strings_append ss (drop (n + b) bs) cs hr in
    cc

-- rows one after another
pub decoded_++ : (ps qs : List ProgramRow) (ss ts : List StringRow) (bs cs : List ℕ) → string_count ps ≡ length ss → sizes ps ss ≡ length bs → decoded (ps ++ qs) (ss ++ ts) (bs ++ cs) ≡ decoded ps ss bs ++ decoded qs ts cs
decoded_++ [] qs ss ts bs cs hc hb =
    let el : ss ≡ [] = nil_from_length ss (sym hc) in
    let z : length bs ≡ 0 = sym hb ∙ ap (sizes []) el in
    ap (λ (x : List StringRow). decoded qs (x ++ ts) (bs ++ cs)) el
    ∙ ap (λ (x : List ℕ). decoded qs ts (x ++ cs)) (nil_from_length bs z)
decoded_++ (p ∷ ps) qs ss ts bs cs hc hb =
    let c = p.strings in
    let n = p.name in
    let counts : string_count (p ∷ ps) ≡ c + string_count ps = sum_by-cons row_strings p ps in
    let names : name_sizes (p ∷ ps) ≡ n + name_sizes ps = sum_by-cons row_name p ps in
    let s : text_sizes ss ≡ text_sizes (take c ss) + text_sizes (drop c ss) = sum_split row_text c ss in
    let hl : c ≤ length ss = omega arith in
    let hn : n ≤ length bs = omega arith in
    let hs : n + text_sizes (take c ss) ≤ length bs = omega arith in
    let ht : text_sizes (take c ss) ≤ length (drop n bs) = rw length-drop (omega arith) in
    let e1 : take n (bs ++ cs) ≡ take n bs = take-append-le n bs cs hn in
    let e2 : take c (ss ++ ts) ≡ take c ss = take-append-le c ss ts hl in
    let e3 : strings_in (take c (ss ++ ts)) (drop n (bs ++ cs)) ≡ strings_in (take c ss) (drop n bs) =
    ap (λ (x : List StringRow). strings_in x (drop n (bs ++ cs))) e2
    ∙ ap (strings_in (take c ss)) (drop-append-le n bs cs hn)
    ∙ strings_append (take c ss) (drop n bs) cs ht in
    let e4 : decoded (ps ++ qs) (drop c (ss ++ ts)) (drop (n + text_sizes (take c (ss ++ ts))) (bs ++ cs)) ≡ decoded ps (drop c ss) (drop (n + text_sizes (take c ss)) bs) ++ decoded qs ts cs =
    ap (λ (x : List StringRow). decoded (ps ++ qs) x (drop (n + text_sizes (take c (ss ++ ts))) (bs ++ cs))) (drop-append-le c ss ts hl)
    ∙ ap (λ (x : List StringRow). decoded (ps ++ qs) (drop c ss ++ ts) (drop (n + text_sizes x) (bs ++ cs))) e2
    ∙ ap (λ (x : List ℕ). decoded (ps ++ qs) (drop c ss ++ ts) x) (drop-append-le (n + text_sizes (take c ss)) bs cs hs)
    ∙ decoded_++ ps qs (drop c ss) ts (drop (n + text_sizes (take c ss)) bs) cs
    (rw length-drop (omega arith)) (rw length-drop (omega arith)) in
    cc

-- what program p takes, of that row: from where it begins to where the next one begins
pub record Spanned (p : ℕ) (r : ProgramRow) (ps : List ProgramRow) (ss : List StringRow) : Type 0 where
  pub strings_within : first_string p ps + r.strings ≤ length ss
  pub bytes_within : first_byte p ps ss + r.name + text_sizes (take r.strings (drop (first_string p ps) ss)) ≤ sizes ps ss
  pub next_string : first_string (p + 1) ps ≡ first_string p ps + r.strings
  pub next_byte : first_byte (p + 1) ps ss ≡ first_byte p ps ss + (r.name + text_sizes (take r.strings (drop (first_string p ps) ss)))

pub spanned : (p : ℕ) (r : ProgramRow) (ps : List ProgramRow) (ss : List StringRow) → slice_get ps p ≡ Some r → string_count ps ≡ length ss → Spanned p r ps ss
spanned p r ps ss there counted =
    let a : ℕ = first_string p ps in
    let next : first_string (p + 1) ps ≡ a + r.strings = sum_next row_strings ps p r there in
    let names : name_sizes (take (p + 1) ps) ≡ name_sizes (take p ps) + r.name = sum_next row_name ps p r there in
    let texts : text_sizes (take (first_string (p + 1) ps) ss) ≡ text_sizes (take a ss) + text_sizes (take r.strings (drop a ss)) =
    ap (λ (k : ℕ). text_sizes (take k ss)) next ∙ sum_part row_text a r.strings ss in
    record {
      strings_within = omega (arith, sum_by-take-le row_strings ps (p + 1));
      bytes_within = omega (arith, sum_by-take-le row_name ps (p + 1), sum_by-take-le row_text ss (first_string (p + 1) ps));
      next_string = next;
      next_byte = omega arith;
    }

-- what a view of program p shows: its name, its rows and the bytes behind its name, read from where the program begins
pub record ProgramRead (p : ℕ) (ps : List ProgramRow) (ss : List StringRow) (bs name : List ℕ) (rows : List StringRow) (texts : List ℕ) : Type 0 where
  pub within : text_sizes rows ≤ length texts
  pub there : Some (program_parts name (strings_in rows texts)) ≡ slice_get (decoded ps ss bs) p

pub program_read : (p : ℕ) (r : ProgramRow) (ps : List ProgramRow) (ss ss' : List StringRow) (bs bs' name texts : List ℕ) (a b : ℕ) → slice_get ps p ≡ Some r → string_count ps ≡ length ss → sizes ps ss ≡ length bs → a ≡ first_string p ps → b ≡ first_byte p ps ss → ss' ≡ ss → bs' ≡ bs → name ≡ take r.name (take (length bs' - b) (drop b bs')) → texts ≡ drop r.name (take (length bs' - b) (drop b bs')) → ProgramRead p ps ss bs name (take ((a + r.strings) - a) (drop a ss')) texts
program_read p r ps ss ss' bs bs' name texts a b there counted filled ea eb es ebs named rest =
    let span = spanned p r ps ss there counted in
    let long : (a + r.strings) - a ≡ r.strings = omega arith in
    let rows : take ((a + r.strings) - a) (drop a ss') ≡ take r.strings (drop (first_string p ps) ss) = cc in
    let from : take (length bs' - b) (drop b bs') ≡ drop (first_byte p ps ss) bs = take_rest bs' b ∙ cc in
    let texts-are : texts ≡ drop r.name (drop (first_byte p ps ss) bs) = rest ∙ ap (drop r.name) from in
    let told = nth_decoded p ps ss bs ∙ ap (option_map _) there in
    record {
      within = rw (rows, texts-are, length-drop, length-drop) (omega arith);
      there = ap (λ (x : List ℕ). Some (program_parts x (strings_in (take ((a + r.strings) - a) (drop a ss')) texts))) (named ∙ ap (take r.name) from)
          ∙ ap (λ (x : List StringRow). Some (program_parts (take r.name (drop (first_byte p ps ss) bs)) (strings_in x texts))) rows
          ∙ ap (λ (x : List ℕ). Some (program_parts (take r.name (drop (first_byte p ps ss) bs)) (strings_in (take r.strings (drop (first_string p ps) ss)) x))) texts-are
          ∙ sym told;
    }

-- what a view of string s shows
pub string_read : (s : ℕ) (r : StringRow) (ss : List StringRow) (bs name rest : List ℕ) (b : ℕ) → slice_get ss s ≡ Some r → b ≡ text_sizes (take s ss) → name ≡ take r.name (take (length bs - b) (drop b bs)) → rest ≡ drop r.name (take (length bs - b) (drop b bs)) → Some (string_parts name (take r.body rest)) ≡ slice_get (strings_in ss bs) s
string_read s r ss bs name rest b there eb named behind =
    let from : take (length bs - b) (drop b bs) ≡ drop (text_sizes (take s ss)) bs = take_rest bs b ∙ ap (λ (k : ℕ). drop k bs) eb in
    let told = nth_strings s ss bs ∙ ap (option_map _) there in
    ap (λ (x : List ℕ). Some (string_parts x (take r.body rest))) (named ∙ ap (take r.name) from)
    ∙ ap (λ (x : List ℕ). Some (string_parts (take r.name (drop (text_sizes (take s ss)) bs)) (take r.body x))) (behind ∙ ap (drop r.name) from)
    ∙ sym told
