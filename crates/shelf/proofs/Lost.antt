-- What is left of packed rows where a program is cut out.
use Rattle.std.proofs.Common.{◌≡◌, ℕ, ◌+◌, ◌<◌, ◌≤◌, List, [], ◌∷◌, ◌++◌, length, take, drop, Some, vec_items, vec_len, sym, refl, ap, ◌∙◌, arith, length-drop, length-append}
use Rattle.std.specs.List.{slice_get}
use Rattle.std.specs.Option.{option_map}
use Rattle.std.proofs.lemmas.List.{take-append-drop, length-take-le, take_at}
use Rattle.std.proofs.lemmas.List.Sums.{sum_by-append, sum_by-cons, sum_by-take-le}
use Rattle.std.proofs.lemmas.Option.{slice_get_within}
use Rattle.library.specs.Meaning.{Program}
use Rattle.library.specs.Keeping.{strings_bytes}
use Rattle.shelf.specs.declared.rows.ProgramRow.{ProgramRow}
use Rattle.shelf.specs.declared.rows.StringRow.{StringRow}
use Rattle.shelf.specs.declared.places.Place.{Place}
use Rattle.shelf.specs.declared.shelf.Shelf.{Shelf}
use Rattle.shelf.specs.Decoding.{string_count, name_sizes, text_sizes, sizes, strings_in, program_in, decoded}
use Rattle.shelf.specs.Places.{first_string, first_byte}
use Rattle.shelf.specs.Shelved.{programs_of}
use Rattle.shelf.proofs.Totals.{sum_split}
use Rattle.shelf.proofs.Packed.{row_strings, row_name, row_text, length_decoded, length_strings, drop_decoded, nth_decoded, decoded_++}
use Rattle.shelf.proofs.Meant.{counted_of, filled_of, span_of}

-- the programs before p
take_decoded : (p : ℕ) (ps : List ProgramRow) (ss : List StringRow) (bs : List ℕ) → p ≤ length ps → string_count ps ≡ length ss → sizes ps ss ≡ length bs → decoded (take p ps) (take (first_string p ps) ss) (take (first_byte p ps ss) bs) ≡ take p (decoded ps ss bs)
take_decoded p ps ss bs h counted filled =
    let a : ℕ = first_string p ps in
    let b : ℕ = first_byte p ps ss in
    let ha : a ≤ length ss = omega (arith, sum_by-take-le row_strings ps p) in
    let hb : b ≤ length bs = omega (arith, sum_by-take-le row_name ps p, sum_by-take-le row_text ss a) in
    let front : List Program = decoded (take p ps) (take a ss) (take b bs) in
    let rest : List Program = decoded (drop p ps) (drop a ss) (drop b bs) in
    let whole : decoded ps ss bs ≡ front ++ rest =
    ap (λ (x : List ProgramRow). decoded x ss bs) (sym (take-append-drop p ps))
    ∙ ap (λ (x : List StringRow). decoded (take p ps ++ drop p ps) x bs) (sym (take-append-drop a ss))
    ∙ ap (λ (x : List ℕ). decoded (take p ps ++ drop p ps) (take a ss ++ drop a ss) x) (sym (take-append-drop b bs))
    ∙ decoded_++ (take p ps) (drop p ps) (take a ss) (drop a ss) (take b bs) (drop b bs)
    (sym (length-take-le a ss ha)) (sym (length-take-le b bs hb)) in
    sym (ap (take p) whole ∙ take_at front rest p (length_decoded (take p ps) (take a ss) (take b bs) ∙ length-take-le p ps h))

-- the programs without program p
cut_decoded : (p : ℕ) (ps : List ProgramRow) (ss : List StringRow) (bs : List ℕ) → p < length ps → string_count ps ≡ length ss → sizes ps ss ≡ length bs → decoded (take p ps ++ drop (p + 1) ps) (take (first_string p ps) ss ++ drop (first_string (p + 1) ps) ss) (take (first_byte p ps ss) bs ++ drop (first_byte (p + 1) ps ss) bs) ≡ take p (decoded ps ss bs) ++ drop (p + 1) (decoded ps ss bs)
cut_decoded p ps ss bs h counted filled =
    let a : ℕ = first_string p ps in
    let b : ℕ = first_byte p ps ss in
    let ha : a ≤ length ss = omega (arith, sum_by-take-le row_strings ps p) in
    let hb : b ≤ length bs = omega (arith, sum_by-take-le row_name ps p, sum_by-take-le row_text ss a) in
    decoded_++ (take p ps) (drop (p + 1) ps) (take a ss) (drop (first_string (p + 1) ps) ss) (take b bs) (drop (first_byte (p + 1) ps ss) bs)
    (sym (length-take-le a ss ha)) (sym (length-take-le b bs hb))
    ∙ ap (λ (x : List Program). x ++ decoded (drop (p + 1) ps) (drop (first_string (p + 1) ps) ss) (drop (first_byte (p + 1) ps ss) bs)) (take_decoded p ps ss bs (omega arith) counted filled)
    ∙ ap (λ (x : List Program). take p (decoded ps ss bs) ++ x) (sym (drop_decoded (p + 1) ps ss bs))

removed_len : {X : Type 0} (xs ys : List X) (a b : ℕ) → ys ≡ take a xs ++ drop b xs → a ≤ b → b ≤ length xs → length ys + b ≡ length xs + a
removed_len xs ys a b e ab within = omega (arith, ap length e, length-append (take a xs) (drop b xs), length-take-le a xs (omega arith), length-drop b xs)

-- rows P, S and bytes B: those of a shelf without program p
pub record Lost (s : Shelf) (p : ℕ) (P : List ProgramRow) (S : List StringRow) (B : List ℕ) : Type 0 where
  pub strings : length S + first_string (p + 1) (vec_items s.programs) ≡ vec_len s.strings + first_string p (vec_items s.programs)
  pub bytes : length B + first_byte (p + 1) (vec_items s.programs) (vec_items s.strings) ≡ vec_len s.bytes + first_byte p (vec_items s.programs) (vec_items s.strings)
  pub counted : string_count P ≡ length S
  pub filled : sizes P S ≡ length B
  pub programs : decoded P S B ≡ take p (programs_of s) ++ drop (p + 1) (programs_of s)

pub lost : (s : Shelf) (p : ℕ) (r : ProgramRow) (start end : Place) (P : List ProgramRow) (S : List StringRow) (B : List ℕ) → slice_get (vec_items s.programs) p ≡ Some r → start.string ≡ first_string p (vec_items s.programs) → end.string ≡ first_string (p + 1) (vec_items s.programs) → start.byte ≡ first_byte p (vec_items s.programs) (vec_items s.strings) → end.byte ≡ first_byte (p + 1) (vec_items s.programs) (vec_items s.strings) → P ≡ take p (vec_items s.programs) ++ drop (p + 1) (vec_items s.programs) → S ≡ take start.string (vec_items s.strings) ++ drop end.string (vec_items s.strings) → B ≡ take start.byte (vec_items s.bytes) ++ drop end.byte (vec_items s.bytes) → Lost s p P S B
lost s p r start end P S B there ea ea' eb eb' eP eS eB =
    let ps = vec_items s.programs in
    let ss = vec_items s.strings in
    let bs = vec_items s.bytes in
    let a : ℕ = first_string p ps in
    let a' : ℕ = first_string (p + 1) ps in
    let span = span_of s p r there in
    let full = filled_of s in
    let S-is : S ≡ take a ss ++ drop a' ss = cc in
    let B-is : B ≡ take (first_byte p ps ss) bs ++ drop (first_byte (p + 1) ps ss) bs = cc in
    let S-len = removed_len ss S a a' S-is (omega arith) (omega arith) in
    let B-len = removed_len bs B (first_byte p ps ss) (first_byte (p + 1) ps ss) B-is (omega arith) (omega arith) in
    let cP : string_count P ≡ string_count (take p ps) + string_count (drop (p + 1) ps) = ap string_count eP ∙ sum_by-append row_strings (take p ps) (drop (p + 1) ps) in
    let nP : name_sizes P ≡ name_sizes (take p ps) + name_sizes (drop (p + 1) ps) = ap name_sizes eP ∙ sum_by-append row_name (take p ps) (drop (p + 1) ps) in
    let tS : text_sizes S ≡ text_sizes (take a ss) + text_sizes (drop a' ss) = ap text_sizes S-is ∙ sum_by-append row_text (take a ss) (drop a' ss) in
    record {
      strings = omega (arith, S-len, s.strings.ok.0);
      bytes = omega (arith, B-len, s.bytes.ok.0);
      counted = omega (arith, S-len, counted_of s, sum_split row_strings (p + 1) ps);
      filled = omega (arith, B-len, sum_split row_name (p + 1) ps, sum_split row_text a' ss);
      programs =
          ap (λ (x : List ProgramRow). decoded x S B) eP
          ∙ ap (λ (x : List StringRow). decoded (take p ps ++ drop (p + 1) ps) x B) S-is
          ∙ ap (λ (x : List ℕ). decoded (take p ps ++ drop (p + 1) ps) (take a ss ++ drop a' ss) x) B-is
          ∙ cut_decoded p ps ss bs (slice_get_within ps p r there) (counted_of s) (filled_of s);
    }

-- the bytes of strings are those of their rows
strings_size : (ss : List StringRow) (bs : List ℕ) → text_sizes ss ≤ length bs → strings_bytes (strings_in ss bs) ≡ text_sizes ss
strings_size [] bs h = refl
strings_size (s ∷ ss) bs h =
    let n = s.name in
    let b = s.body in
    let texts : text_sizes (s ∷ ss) ≡ n + b + text_sizes ss = sum_by-cons row_text s ss in
    let hn : n ≤ length bs = omega arith in
    let hb : b ≤ length (drop n bs) = rw length-drop (omega arith) in
    let hr : text_sizes ss ≤ length (drop (n + b) bs) = rw length-drop (omega arith) in
    omega (arith, length-take-le n bs hn, length-take-le b (drop n bs) hb, strings_size ss (drop (n + b) bs) hr)

-- program p of a shelf, of that row, and the space that it takes: from where it begins to where the next one begins
abbrev pub program_of : Shelf → ℕ → ProgramRow → Program
program_of s p r =
    program_in r (drop (first_string p (vec_items s.programs)) (vec_items s.strings))
    (drop (first_byte p (vec_items s.programs) (vec_items s.strings)) (vec_items s.bytes))

pub record Freed (s : Shelf) (p : ℕ) (r : ProgramRow) : Type 0 where
  pub there : slice_get (programs_of s) p ≡ Some (program_of s p r)
  pub strings : first_string p (vec_items s.programs) + length (program_of s p r).strings ≡ first_string (p + 1) (vec_items s.programs)
  pub bytes : first_byte p (vec_items s.programs) (vec_items s.strings) + (length (program_of s p r).name + strings_bytes (program_of s p r).strings) ≡ first_byte (p + 1) (vec_items s.programs) (vec_items s.strings)

pub freed : (s : Shelf) (p : ℕ) (r : ProgramRow) → slice_get (vec_items s.programs) p ≡ Some r → Freed s p r
freed s p r there =
    let span = span_of s p r there in
    let ps = vec_items s.programs in
    let n : ℕ = r.name in
    let c : ℕ = r.strings in
    let d : List StringRow = drop (first_string p ps) (vec_items s.strings) in
    let x : List ℕ = drop (first_byte p ps (vec_items s.strings)) (vec_items s.bytes) in
    let full = filled_of s in
    let hc : c ≤ length d = rw length-drop (omega arith) in
    let hn : n ≤ length x = rw length-drop (omega arith) in
    let ht : text_sizes (take c d) ≤ length (drop n x) = rw (length-drop, length-drop) (omega arith) in
    record {
      there = nth_decoded p ps (vec_items s.strings) (vec_items s.bytes) ∙ ap (option_map (λ (q : ProgramRow). program_of s p q)) there;
      strings = omega (arith, length_strings (take c d) (drop n x), length-take-le c d hc);
      bytes = omega (arith, length-take-le n x hn, strings_size (take c d) (drop n x) ht);
    }
