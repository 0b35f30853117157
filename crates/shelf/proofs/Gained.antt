-- A program written behind the others is read again.
use Rattle.std.proofs.Common.{◌≡◌, ℕ, ◌+◌, ◌≤◌, true, List, [], ◌∷◌, ◌++◌, map, length, take, drop, vec_items, vec_len, refl, ap, ◌∙◌, append_assoc, arith}
use Rattle.std.specs.List.{flat_map}
use Rattle.std.proofs.lemmas.List.{take_at, drop_at, take_all, length-map, length-append}
use Rattle.std.proofs.lemmas.List.Sums.{sum_by-append, sum_by-cons, sum_by_push}
use Rattle.std.proofs.lemmas.Bool.Decides.{nat_tests}
use Rattle.library.specs.Meaning.{NamedString, Program}
use Rattle.library.specs.Keeping.{strings_bytes, fits}
use Rattle.library.specs.declared.space.Space.{Space}
use Rattle.shelf.specs.declared.rows.ProgramRow.{ProgramRow}
use Rattle.shelf.specs.declared.rows.StringRow.{StringRow}
use Rattle.shelf.specs.declared.shelf.Shelf.{Shelf}
use Rattle.shelf.specs.Decoding.{string_count, name_sizes, text_sizes, sizes, strings_in, program_in, decoded}
use Rattle.shelf.specs.Adding.{row_of, bytes_of}
use Rattle.shelf.specs.Shelved.{programs_of}
use Rattle.shelf.proofs.Packed.{row_strings, row_name, row_text, program_parts, decoded_++}
use Rattle.shelf.proofs.Meant.{counted_of, filled_of}

abbrev made : List ℕ → List ℕ → List NamedString → List NamedString
made n b ss = record { name = n; body = b } ∷ ss

strings_back : (ss : List NamedString) → strings_in (map row_of ss) (flat_map bytes_of ss) ≡ ss
strings_back [] = refl
strings_back (s ∷ ss) =
    let n = s.name in
    let b = s.body in
    let r = flat_map bytes_of ss in
    let e : (n ++ b) ++ r ≡ n ++ (b ++ r) = append_assoc n b r in
    let e1 : take (length n) ((n ++ b) ++ r) ≡ n = ap (take (length n)) e ∙ take_at n (b ++ r) (length n) refl in
    let e2 : take (length b) (drop (length n) ((n ++ b) ++ r)) ≡ b =
    ap (λ (x : List ℕ). take (length b) (drop (length n) x)) e
    ∙ ap (take (length b)) (drop_at n (b ++ r) (length n) refl)
    ∙ take_at b r (length b) refl in
    let e3 : drop (length n + length b) ((n ++ b) ++ r) ≡ r = drop_at (n ++ b) r (length n + length b) (length-append n b) in
    let e4 : strings_in (map row_of ss) (drop (length n + length b) ((n ++ b) ++ r)) ≡ ss = ap (strings_in (map row_of ss)) e3 ∙ strings_back ss in
    ap (λ (x : List ℕ). made x (take (length b) (drop (length n) ((n ++ b) ++ r))) (strings_in (map row_of ss) (drop (length n + length b) ((n ++ b) ++ r)))) e1
    ∙ ap (λ (x : List ℕ). made n x (strings_in (map row_of ss) (drop (length n + length b) ((n ++ b) ++ r)))) e2
    ∙ ap (λ (x : List NamedString). made n b x) e4

text_sizes_back : (ss : List NamedString) → text_sizes (map row_of ss) ≡ strings_bytes ss
text_sizes_back [] = refl
text_sizes_back (s ∷ ss) = omega (arith, sum_by-cons row_text (row_of s) (map row_of ss), text_sizes_back ss)

program_back : (name : List ℕ) (ss : List NamedString) (n : ℕ) → n ≡ length ss → program_in (record { name = length name; strings = n }) (map row_of ss) (name ++ flat_map bytes_of ss) ≡ program_parts name ss
program_back name ss n e =
    let r = flat_map bytes_of ss in
    let hl : length (map row_of ss) ≤ n = omega (arith, length-map ss row_of) in
    let e1 : take (length name) (name ++ r) ≡ name = take_at name r (length name) refl in
    let e2 : strings_in (take n (map row_of ss)) (drop (length name) (name ++ r)) ≡ ss =
    ap (λ (x : List StringRow). strings_in x (drop (length name) (name ++ r))) (take_all n (map row_of ss) hl)
    ∙ ap (strings_in (map row_of ss)) (drop_at name r (length name) refl)
    ∙ strings_back ss in
    ap (λ (x : List ℕ). program_parts x (strings_in (take n (map row_of ss)) (drop (length name) (name ++ r)))) e1
    ∙ ap (program_parts name) e2

-- rows P, S and bytes B: those of a shelf with one program more
pub record Gained (s : Shelf) (name : List ℕ) (strings : List NamedString) (P : List ProgramRow) (S : List StringRow) (B : List ℕ) : Type 0 where
  pub counted : string_count P ≡ vec_len s.strings + length strings
  pub filled : sizes P S ≡ vec_len s.bytes + (length name + strings_bytes strings)
  pub programs : decoded P S B ≡ programs_of s ++ program_parts name strings ∷ []

pub gained : (s : Shelf) (name : List ℕ) (strings : List NamedString) (n : ℕ) (P : List ProgramRow) (S : List StringRow) (M B : List ℕ) → n ≡ length strings → P ≡ vec_items s.programs ++ record { name = length name; strings = n } ∷ [] → S ≡ vec_items s.strings ++ map row_of strings → M ≡ vec_items s.bytes ++ name → B ≡ M ++ flat_map bytes_of strings → Gained s name strings P S B
gained s name strings n P S M B en eP eS eM eB =
    let ps = vec_items s.programs in
    let ss = vec_items s.strings in
    let bs = vec_items s.bytes in
    let x : ProgramRow = record { name = length name; strings = n } in
    let cP : string_count P ≡ string_count ps + n = ap string_count eP ∙ sum_by_push row_strings ps x in
    let nP : name_sizes P ≡ name_sizes ps + length name = ap name_sizes eP ∙ sum_by_push row_name ps x in
    let tS : text_sizes S ≡ text_sizes ss + text_sizes (map row_of strings) = ap text_sizes eS ∙ sum_by-append row_text ss (map row_of strings) in
    let B-is : B ≡ bs ++ (name ++ flat_map bytes_of strings) = eB ∙ ap (λ (l : List ℕ). l ++ flat_map bytes_of strings) eM ∙ append_assoc bs name (flat_map bytes_of strings) in
    record {
      counted = omega (arith, s.counted);
      filled = omega (arith, s.filled, text_sizes_back strings);
      programs =
          ap (λ (y : List ProgramRow). decoded y S B) eP
          ∙ ap (λ (y : List StringRow). decoded (ps ++ x ∷ []) y B) eS
          ∙ ap (λ (y : List ℕ). decoded (ps ++ x ∷ []) (ss ++ map row_of strings) y) B-is
          ∙ decoded_++ ps (x ∷ []) ss (map row_of strings) bs (name ++ flat_map bytes_of strings) (counted_of s) (filled_of s)
          ∙ ap (λ (y : Program). programs_of s ++ y ∷ []) (program_back name strings n en);
    }

-- where there is so much space
pub fits_parts : (a b : Space) → fits a b ≡ true → (a.programs ≤ b.programs) × (a.strings ≤ b.strings) × (a.bytes ≤ b.bytes)
fits_parts a b h = (grind (arith, nat_tests), grind (arith, nat_tests), grind (arith, nat_tests))
