-- The definition by questions and the one by layout say the same.
use Rattle.std.proofs.Common.{◌≡◌, ℕ, zero, suc, ◌+◌, ◌-◌, ◌*◌, ◌/◌, ◌<◌, ◌≤◌, Bool, true, false, eqb, leb, List, [], ◌∷◌, ◌++◌, map, length, get_or, take, drop, replicate, None, Some, Ok, Err, IfOk, Option, Result, sym, refl, ap, ◌∙◌, subst, arith}
use Rattle.std.specs.List.{flat_map, list_all}
use Rattle.std.specs.Simd.{first_chunks}
use Rattle.std.proofs.lemmas.List.{append-nil, length-append, length-map, take_all, take_at, drop_at, get_or-drop, get_or-take, length-replicate, take-append-drop, length-take-le, length-drop}
use Rattle.std.proofs.lemmas.Bool.{and_parts, and_from, eqb-true, eq-eqb, leb-true, le-leb, both_ways, lt-ltb, cond-true}
use Rattle.code.specs.Meaning.{CodeMeaning, within}
use Rattle.library.specs.Meaning.{Program, Library, Lawful}
use Rattle.refusal.specs.declared.Refusal.{Refusal}
use Rattle.refusal.specs.Outcome.{kept_or}
use Rattle.image.specs.Lines.{Line, listed, gathered}
use Rattle.image.specs.Layout.{Entry, entry_for, entry_bytes, text_bytes, laid_out, laid_out_lines, KeepsRules, proper_bytes, short_texts}
use Rattle.image.specs.Contents.{entries, entries_of_rows, programs_of_rows, first_entry, program_of, text_sizes, text_size, lines, line_at, programs_in}
use Rattle.image.specs.Questions.{ask, well_named, adjacent, contents_refusal, complete, image_refusal}
use Rattle.image.specs.Cutting.{IsCut}
use Rattle.image.specs.Opening.{programs_of, image_library, Opened, LayoutIsUnique}
use Rattle.image.specs.Granting.{programs_held, meaning_of, opened_or}
use Rattle.image.specs.declared.granted.Image.{Image}
use Rattle.std.specs.Result.{result_err}
use Rattle.image.proofs.Gather.{name_of, program_of_line, name_fits, all_apart, listed_gathered, list_all-gathered, apart_gathered, lawful_from_tests, fits_from_named, apart_from_distinct, gathered_listed, filled_gathered}
use Rattle.image.proofs.Entries.{entries-chunks, from_entry, Small, whole, small_rest, entries_of_bytes, length_entries_bytes, bytes_of_entries, whole_entries, length_entries, lines_of_texts, texts_size, texts_of_lines, entries_of_lines, programs_of_lines, length_lines, names_fit}

-- a question that let pass, and what came after it
pub asked : (q : Bool) (r : Refusal) (next : Option Refusal) → ask q r next ≡ None → (q ≡ true) × (next ≡ None)
asked true r next e = (refl, e)
asked false r next e = let z : ◌≡◌ {A = ℕ} 0 1 = cc in absurd (omega arith)

pub passed : (q : Bool) (r : Refusal) (next : Option Refusal) → q ≡ true → next ≡ None → ask q r next ≡ None
passed true r next t e = e
passed false r next t e = absurd (both_ways false refl t)

-- what the questions to the contents have shown
pub record Sound (code : CodeMeaning) (es : List Entry) (texts : List ℕ) : Type 0 where
  pub named : list_all well_named es ≡ true
  pub grouped : adjacent (map program_of es) ≡ true
  pub filled : text_sizes es ≡ length texts
  pub proper : list_all (proper_bytes code) (lines es texts) ≡ true

pub sound_contents : (code : CodeMeaning) (es : List Entry) (texts : List ℕ) → contents_refusal code es texts ≡ None → Sound code es texts
sound_contents code es texts e =
    let four = asked (list_all well_named es) _ _ e in
    let five = asked (adjacent (map program_of es)) _ _ four.1 in
    let six = asked (eqb (text_sizes es) (length texts)) _ _ five.1 in
    let seven = asked (list_all (proper_bytes code) (lines es texts)) _ _ six.1 in
    record { named = four.0; grouped = five.0; filled = eqb-true _ _ six.0; proper = seven.0 }

-- the laws of a library, from two of the questions
pub lawful_contents : (es : List Entry) (texts : List ℕ) → list_all whole es ≡ true → list_all well_named es ≡ true → adjacent (map program_of es) ≡ true → Lawful (gathered (lines es texts))
lawful_contents es texts w t a =
    let ls = lines es texts in
    let n = programs_of_lines es texts in
    lawful_from_tests (gathered ls)
    (list_all-gathered name_fits ls ∙ ap (list_all name_fits) n ∙ names_fit es w t)
    (sym (apart_gathered ls) ∙ ap adjacent n ∙ a)

-- texts are short, since two bytes hold their lengths
pub short_lines : (n : ℕ) (bs ts : List ℕ) → ((i : ℕ) → i < n → Small (from_entry i bs)) → text_sizes (entries n bs) ≤ length ts → list_all short_texts (lines (entries n bs) ts) ≡ true
short_lines zero bs ts s h = refl
short_lines (suc n) bs ts s h =
    let e = first_entry bs in
    let f = s 0 (omega arith) in
    let a : length (take e.name_length ts) ≡ e.name_length = length-take-le e.name_length ts (omega arith) in
    let b : length (take e.body_length (drop e.name_length ts)) ≡ e.body_length = length-take-le e.body_length (drop e.name_length ts) (simp length-drop (omega arith)) in
    and_from (short_texts (line_at e ts)) (list_all short_texts (lines (entries n (drop 25 bs)) (drop (text_size e) ts)))
    (and_from _ _ (lt-ltb (length (take e.name_length ts)) 65536 (omega (arith, a, f.name_high, f.name_low)))
    (lt-ltb (length (take e.body_length (drop e.name_length ts))) 65536 (omega (arith, b, f.body_high, f.body_low))))
    (short_lines n (drop 25 bs) (drop (text_size e) ts) (small_rest n bs s) (simp length-drop (omega arith)))

-- 1. What is granted is laid out.
pub contents_laid_out : (code : CodeMeaning) (n : ℕ) (bs ts : List ℕ) → n ≤ 128 → 25 * n ≡ length bs → ((i : ℕ) → i < n → Small (from_entry i bs)) → Sound code (entries n bs) ts →
    KeepsRules code (programs_in n bs ts) × (laid_out code (programs_in n bs ts) ≡ code.number ∷ n ∷ bs ++ ts)
contents_laid_out code n bs ts few long small sound =
    let es = entries n bs in
    let ls = lines es ts in
    let w = whole_entries n bs (omega arith) in
    let back = listed_gathered ls in
    let count : length ls ≡ n = length_lines es ts ∙ length_entries n bs in
    let contents : flat_map entry_bytes (map entry_for ls) ≡ bs =
    ap (flat_map entry_bytes) (entries_of_lines es ts w sound.named (omega (arith, sound.filled)))
    ∙ bytes_of_entries n bs (omega arith) small ∙ take_all (25 * n) bs (omega arith) in
    let texts : flat_map text_bytes ls ≡ ts = texts_of_lines es ts ∙ take_all (text_sizes es) ts (omega (arith, sound.filled)) in (
      record {
        few = subst (λ (xs : List Line). length xs ≤ 128) (sym back) (omega (arith, count));
        filled = filled_gathered ls;
        lawful = lawful_contents es ts w sound.named sound.grouped;
        short = ap (list_all short_texts) back ∙ short_lines n bs ts small (omega (arith, sound.filled));
        proper = ap (list_all (proper_bytes code)) back ∙ sound.proper;
      },
      ap (laid_out_lines code.number) back ∙ same_image code.number _ n _ bs _ ts count contents texts,
    )
  where
    same_image : (k m m' : ℕ) (a a' b b' : List ℕ) → m ≡ m' → a ≡ a' → b ≡ b' → k ∷ m ∷ a ++ b ≡ k ∷ m' ∷ a' ++ b'
    same_image k m m' a a' b b' x y z = cc

-- each is a byte
abbrev pub Bytes : List ℕ → Type 0
Bytes bs = (k : ℕ) → get_or bs k 0 < 256

bytes_small : (n : ℕ) (bs : List ℕ) → Bytes bs → (i : ℕ) → i < n → Small (from_entry i bs)
bytes_small n bs h i l = record { name_high = at 21; name_low = at 22; body_high = at 23; body_low = at 24 }
  where
    at : (k : ℕ) → get_or (drop (25 * i) bs) k 0 < 256
    at k = subst (λ (x : ℕ). x < 256) (sym (get_or-drop (25 * i) bs k 0)) (h (25 * i + k))

taken_small : (n m : ℕ) (bs : List ℕ) → n * 25 ≤ m → ((i : ℕ) → i < n → Small (from_entry i bs)) → (i : ℕ) → i < n → Small (from_entry i (take m bs))
taken_small n m bs h s i l = record { name_high = at 21 (omega arith) (s i l).name_high; name_low = at 22 (omega arith) (s i l).name_low; body_high = at 23 (omega arith) (s i l).body_high; body_low = at 24 (omega arith) (s i l).body_low }
  where
    at : (k : ℕ) → k < 25 → get_or (drop (25 * i) bs) k 0 < 256 → get_or (drop (25 * i) (take m bs)) k 0 < 256
    at k h₂ x = let lt : 25 * i + k < m = omega arith in
        subst (λ (y : ℕ). y < 256) (sym (get_or-drop (25 * i) (take m bs) k 0 ∙ get_or-take m bs (25 * i + k) 0 lt ∙ sym (get_or-drop (25 * i) bs k 0))) x

-- bytes of which no question says no are the image of the programs that they hold, and these keep the rules
pub granted_is_laid_out : (code : CodeMeaning) (bs : List ℕ) → Bytes bs → image_refusal code bs ≡ None →
    KeepsRules code (programs_of bs) × (laid_out code (programs_of bs) ≡ bs)
granted_is_laid_out code [] h e = let z : ◌≡◌ {A = ℕ} 0 1 = cc in absurd (omega arith)
granted_is_laid_out code (number ∷ []) h e = let z : ◌≡◌ {A = ℕ} 0 1 = cc in absurd (omega arith)
granted_is_laid_out code (number ∷ n ∷ rest) h e =
    let two = asked (eqb number code.number) _ _ e in
    let three = asked (complete n rest) _ _ two.1 in
    let c = and_parts (leb n 128) (leb (25 * n) (length rest)) three.0 in
    let few : n ≤ 128 = leb-true n 128 c.0 in
    let enough : 25 * n ≤ length rest = leb-true (25 * n) (length rest) c.1 in
    let contents = take (25 * n) rest in
    let texts = drop (25 * n) rest in
    let laid = contents_laid_out code n contents texts few (sym (length-take-le (25 * n) rest enough))
    (taken_small n (25 * n) rest (omega arith) (bytes_small n rest (λ k. h (suc (suc k))))) (sound_contents code (entries n contents) texts three.1) in (
      laid.0,
      laid.1 ∙ ap (λ (xs : List ℕ). code.number ∷ n ∷ xs) (take-append-drop (25 * n) rest)
          ∙ ap (λ (k : ℕ). k ∷ n ∷ rest) (sym (eqb-true number code.number two.0)),
    )

-- 2. What is laid out is granted.
lines_well_named : (ls : List Line) → list_all name_fits (map program_of_line ls) ≡ true → list_all well_named (map entry_for ls) ≡ true
lines_well_named [] t = refl
lines_well_named (l ∷ ls) t =
    let p = and_parts (name_fits l.program) (list_all name_fits (map program_of_line ls)) t in
    let n = length l.program in
    and_from (well_named (entry_for l)) (list_all well_named (map entry_for ls))
    (and_from (within 1 20 n) (list_all (λ b. eqb b 0) (drop n (l.program ++ replicate (20 - n) 0))) p.0
    (ap (list_all (λ b. eqb b 0)) (drop_at l.program (replicate (20 - n) 0) n refl) ∙ zeros (20 - n)))
    (lines_well_named ls p.1)
  where
    zeros : (k : ℕ) → list_all (λ b. eqb b 0) (replicate k 0) ≡ true
    zeros zero = refl
    zeros (suc k) = zeros k

whole_for : (ls : List Line) → list_all name_fits (map program_of_line ls) ≡ true → list_all whole (map entry_for ls) ≡ true
whole_for [] t = refl
whole_for (l ∷ ls) t =
    let p = and_parts (name_fits l.program) (list_all name_fits (map program_of_line ls)) t in
    let n = length l.program in
    let h : n ≤ 20 = leb-true n 20 (and_parts (leb 1 n) (leb n 20) p.0).1 in
    let e : length (l.program ++ replicate (20 - n) 0) ≡ 20 = length-append l.program (replicate (20 - n) 0) ∙ ap (λ (k : ℕ). n + k) (length-replicate (20 - n) 0) ∙ omega arith in
    and_from (whole (entry_for l)) (list_all whole (map entry_for ls)) (eq-eqb _ 20 e) (whole_for ls p.1)

programs_for : (ls : List Line) → map program_of (map entry_for ls) ≡ map program_of_line ls
programs_for [] = refl
programs_for (l ∷ ls) =
    ap (λ (n : List ℕ). n ∷ map program_of (map entry_for ls)) (take_at l.program (replicate (20 - length l.program) 0) (length l.program) refl)
    ∙ ap (λ (ns : List (List ℕ)). l.program ∷ ns) (programs_for ls)

-- the entries and the texts of programs that keep the rules pass the questions
lines_granted : (code : CodeMeaning) (ps : List Program) → KeepsRules code ps →
    (contents_refusal code (map entry_for (listed ps)) (flat_map text_bytes (listed ps)) ≡ None) × (list_all whole (map entry_for (listed ps)) ≡ true)
lines_granted code ps rules =
    let ls = listed ps in
    let es = map entry_for ls in
    let ts = flat_map text_bytes ls in
    let apart = apart_from_distinct ps rules.lawful in
    let back : gathered ls ≡ ps = gathered_listed ps rules.filled apart in
    let fit : list_all name_fits (map program_of_line ls) ≡ true =
    sym (list_all-gathered name_fits ls) ∙ ap (λ (qs : List Program). list_all name_fits (map name_of qs)) back ∙ fits_from_named ps rules.lawful in
    let grouped : adjacent (map program_of es) ≡ true =
    ap adjacent (programs_for ls) ∙ apart_gathered ls ∙ ap (λ (qs : List Program). all_apart (map name_of qs)) back ∙ apart in (
      passed (list_all well_named es) _ _ (lines_well_named ls fit)
          (passed (adjacent (map program_of es)) _ _ grouped
          (passed (eqb (text_sizes es) (length ts)) _ _ (eq-eqb _ _ (texts_size ls))
          (passed (list_all (proper_bytes code) (lines es ts)) _ _ (ap (list_all (proper_bytes code)) (lines_of_texts ls) ∙ rules.proper) refl))),
      whole_for ls fit,
    )

-- the image of programs that keep the rules is granted, and holds those programs
pub laid_out_is_granted : (code : CodeMeaning) (ps : List Program) → KeepsRules code ps →
    (image_refusal code (laid_out code ps) ≡ None) × (programs_of (laid_out code ps) ≡ ps)
laid_out_is_granted code ps rules =
    let ls = listed ps in
    let es = map entry_for ls in
    let ts = flat_map text_bytes ls in
    let n = length ls in
    let c = flat_map entry_bytes es in
    let granted = lines_granted code ps rules in
    let count : length es ≡ n = length-map ls entry_for in
    let long : length c ≡ 25 * n = length_entries_bytes es granted.1 ∙ ap (λ (k : ℕ). 25 * k) count in
    let front : take (25 * n) (c ++ ts) ≡ c = take_at c ts (25 * n) long in
    let back : drop (25 * n) (c ++ ts) ≡ ts = drop_at c ts (25 * n) long in
    let read : entries n (take (25 * n) (c ++ ts)) ≡ es =
    ap (entries n) (front ∙ sym (append-nil c)) ∙ ap (λ (k : ℕ). entries k (c ++ [])) (sym count) ∙ entries_of_bytes es [] granted.1 in (
      passed (eqb code.number code.number) _ _ (eq-eqb _ _ refl)
          (passed (complete n (c ++ ts)) _ _ (and_from _ _ (le-leb n 128 rules.few) (le-leb (25 * n) (length (c ++ ts)) (simp length-append (omega (arith, long)))))
          (ap (λ (xs : List Entry). contents_refusal code xs (drop (25 * n) (c ++ ts))) read ∙ ap (contents_refusal code es) back ∙ granted.0)),
      ap (λ (xs : List Entry). gathered (lines xs (drop (25 * n) (c ++ ts)))) read
          ∙ ap (λ (xs : List ℕ). gathered (lines es xs)) back
          ∙ ap gathered (lines_of_texts ls)
          ∙ gathered_listed ps rules.filled (apart_from_distinct ps rules.lawful),
    )

-- 3. The programs of an image are no others.
pub layout_is_unique : LayoutIsUnique
layout_is_unique code ps qs p q e =
    sym (laid_out_is_granted code ps p).1 ∙ ap programs_of e ∙ (laid_out_is_granted code qs q).1

-- 4. An image that passes the first two questions is cut.
is_cut_rest : (code : CodeMeaning) (n : ℕ) (rest contents texts : List ℕ) (rows : List (List ℕ)) → n ≤ 128 → 25 * n ≤ length rest →
    contents ≡ take (25 * n) rest → texts ≡ drop (25 * n) rest → rows ≡ first_chunks 25 (length contents / 25) contents → IsCut code (code.number ∷ n ∷ rest) rows texts
is_cut_rest code n rest contents texts rows few enough c t r =
    let es = entries n (take (25 * n) rest) in
    let long : length (take (25 * n) rest) ≡ 25 * n = length-take-le (25 * n) rest enough in
    let count : length (take (25 * n) rest) / 25 ≡ n = omega arith in
    let same : es ≡ entries_of_rows rows =
    sym
    (ap entries_of_rows (r ∙ ap (λ (xs : List ℕ). first_chunks 25 (length xs / 25) xs) c ∙ ap (λ (k : ℕ). first_chunks 25 k (take (25 * n) rest)) count)
    ∙ entries-chunks n (take (25 * n) rest)) in
    let two : eqb code.number code.number ≡ true = eq-eqb _ _ refl in
    let three : complete n rest ≡ true = and_from _ _ (le-leb n 128 few) (le-leb (25 * n) (length rest) enough) in
    record {
      asked =
          cond-true (eqb code.number code.number) _ _ two ∙ cond-true (complete n rest) _ _ three
          ∙ ap (λ (xs : List Entry). contents_refusal code xs (drop (25 * n) rest)) same ∙ ap (contents_refusal code (entries_of_rows rows)) (sym t);
      held = ap (λ (xs : List Entry). gathered (lines xs (drop (25 * n) rest))) same ∙ ap (programs_of_rows rows) (sym t);
      fields = sym (ap (list_all whole) same) ∙ whole_entries n (take (25 * n) rest) (omega arith);
    }

pub is_cut : (code : CodeMeaning) (bs rest contents texts : List ℕ) (rows : List (List ℕ)) (n : ℕ) → 2 ≤ length bs → get_or bs 0 0 ≡ code.number → get_or bs 1 0 ≡ n →
    rest ≡ drop 2 bs → n ≤ 128 → 25 * n ≤ length rest → contents ≡ take (25 * n) rest → texts ≡ drop (25 * n) rest → rows ≡ first_chunks 25 (length contents / 25) contents →
    IsCut code bs rows texts
is_cut code [] rest contents texts rows n h e f g few enough c t r = absurd (omega arith)
is_cut code (x ∷ []) rest contents texts rows n h e f g few enough c t r = absurd (omega arith)
is_cut code (x ∷ y ∷ bs) rest contents texts rows n h e f g few enough c t r =
    subst (λ (xs : List ℕ). IsCut code xs rows texts) (same code.number x n y rest bs (sym e) (sym f) g) (is_cut_rest code n rest contents texts rows few enough c t r)
  where
    same : (x x' y y' : ℕ) (xs xs' : List ℕ) → x ≡ x' → y ≡ y' → xs ≡ xs' → ◌≡◌ {A = List ℕ} (x ∷ y ∷ xs) (x' ∷ y' ∷ xs')
    same x x' y y' xs xs' p q r = cc

-- 5. So opening by the questions is opening by the layout.
pub opened : (code : CodeMeaning) (bs : List ℕ) (r : Option Refusal) (old new : Library) → Bytes bs → r ≡ image_refusal code bs → new ≡ kept_or r (image_library (programs_of bs)) old →
    Opened code bs r old new
opened code bs r old new h e f =
    let after = λ (x : Option Refusal). kept_or x (image_library (programs_of bs)) old in
    let held : r ≡ None → new ≡ image_library (programs_of bs) = λ none. f ∙ ap after none in
    record {
      first_no = e;
      kept = λ s t. f ∙ ap after t;
      held = held;
      granted = λ ps rules same.
          let laid = laid_out_is_granted code ps rules in
          let none : r ≡ None = e ∙ ap (image_refusal code) same ∙ laid.0 in
          (none, held none ∙ ap image_library (ap programs_of same ∙ laid.1));
      laid = λ none.
          let granted = granted_is_laid_out code bs h (sym e ∙ none) in
          (programs_of bs, granted.0, sym granted.1, held none);
    }

-- the same, of what is told of the answer
pub opened_by : (code : CodeMeaning) (bs : List ℕ) (r : Result Image Refusal) (before : Library) → Bytes bs → result_err r ≡ image_refusal code bs → IfOk r (λ i. programs_held i ≡ programs_of bs) → Opened code bs (result_err r) before (opened_or before r)
opened_by code bs (Ok i) before h e f = opened code bs None before (meaning_of i) h e (ap image_library (f))
opened_by code bs (Err x) before h e f = opened code bs (Some x) before before h e refl
