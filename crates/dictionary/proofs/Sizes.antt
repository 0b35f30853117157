-- What rows take, and that what is read of a row depends on its own bytes alone.
use Rattle.std.proofs.Common.{◌≡◌, ℕ, ◌+◌, ◌≤◌, List, [], ◌∷◌, ◌++◌, length, take, drop, sym, refl, ap, ◌∙◌, arith, length-drop}
use Rattle.std.specs.Prelude.{vec_items, vec_len}
use Rattle.std.specs.List.{sum_by}
use Rattle.std.proofs.lemmas.List.{take-append-le, drop-append-le, length-take-le}
use Rattle.std.proofs.lemmas.List.Sums.{sum_by-cons}
use Rattle.machine.specs.Dictionary.{Meaning, string, built_in, Class, body_of, names_in, bytes_in}
use Rattle.machine.specs.Dictionary as machine
use Rattle.dictionary.specs.declared.rows.ClassRow.{ClassRow}
use Rattle.dictionary.specs.declared.rows.RowMeaning.{RowMeaning}
use Rattle.dictionary.specs.declared.rows.RowMeaning.TheVariants as stored
use Rattle.dictionary.specs.declared.dictionary.Dictionary.{Dictionary}
use Rattle.dictionary.specs.Decoding.{packed, body_size, row_size, class_size, meaning_in, row_in, class_in}
use Rattle.dictionary.specs.Meant.{text_in, dictionary_in}
use Rattle.dictionary.specs.Editing.{row_of}
use Rattle.dictionary.proofs.Packed.{Framed, length_packed}

abbrev string_of : List ℕ → ℕ → Meaning
string_of body pointer = string (record { body = body; pointer = pointer })

meaning_framed : (m : RowMeaning) (bs cs : List ℕ) → body_size m ≤ length bs → meaning_in m (bs ++ cs) ≡ meaning_in m bs
meaning_framed (stored.String s) bs cs h = ap (λ (x : List ℕ). string_of x s.pointer) (take-append-le s.length bs cs h)
meaning_framed (stored.BuiltIn f) bs cs h = refl

pub rows_framed : Framed row_size row_in
rows_framed = record {
  same = λ r bs cs h.
      let hn : r.name ≤ length bs = omega arith in
      let hb : body_size r.meaning ≤ length (drop r.name bs) = rw length-drop (omega arith) in
      let names : take r.name (bs ++ cs) ≡ take r.name bs = take-append-le r.name bs cs hn in
      let bodies : meaning_in r.meaning (drop r.name (bs ++ cs)) ≡ meaning_in r.meaning (drop r.name bs) =
      ap (meaning_in r.meaning) (drop-append-le r.name bs cs hn) ∙ meaning_framed r.meaning (drop r.name bs) cs hb in
      ap (λ (x : List ℕ). row_of x (meaning_in r.meaning (drop r.name (bs ++ cs)))) names ∙ ap (row_of (take r.name bs)) bodies;
}

abbrev class_of_parts : ClassRow → List ℕ → Class
class_of_parts c name = record { name = name; members = c.members }

pub classes_framed : Framed class_size class_in
classes_framed = record { same = λ c bs cs h. ap (class_of_parts c) (take-append-le c.name bs cs h) }

-- what is read of an entry takes as many bytes as the entry
pub record Measured {E X : Type 0} (size : E → ℕ) (read : E → List ℕ → X) (measure : X → ℕ) : Type 0 where
  pub same : (e : E) (bs : List ℕ) → size e ≤ length bs → measure (read e bs) ≡ size e

pub sum_packed : {E X : Type 0} (size : E → ℕ) (read : E → List ℕ → X) (measure : X → ℕ) (es : List E) (bs : List ℕ) → Measured size read measure → sum_by size es ≤ length bs → sum_by measure (packed size read es bs) ≡ sum_by size es
sum_packed size read measure [] bs measured h = refl
sum_packed size read measure (e ∷ es) bs measured h =
    let sizes : sum_by size (e ∷ es) ≡ size e + sum_by size es = sum_by-cons size e es in
    let n : ℕ = size e in
    let here : measure (read e bs) ≡ n = measured.same e bs (omega arith) in
    let rest : sum_by measure (packed size read es (drop n bs)) ≡ sum_by size es = sum_packed size read measure es (drop n bs) measured (rw length-drop (omega arith)) in
    omega (arith, sum_by-cons measure (read e bs) (packed size read es (drop n bs)))

abbrev pub row_measure : machine.Row → ℕ
row_measure r = length r.name + length (body_of r.meaning)

abbrev pub class_measure : Class → ℕ
class_measure c = length c.name

pub body_measured : (m : RowMeaning) (bs : List ℕ) → body_size m ≤ length bs → length (body_of (meaning_in m bs)) ≡ body_size m
body_measured (stored.String s) bs h = length-take-le s.length bs h
body_measured (stored.BuiltIn f) bs h = refl

pub rows_measured : Measured row_size row_in row_measure
rows_measured = record {
  same = λ r bs h.
      let hb : body_size r.meaning ≤ length (drop r.name bs) = rw length-drop (omega arith) in
      omega (arith, length-take-le r.name bs (omega arith), body_measured r.meaning (drop r.name bs) hb);
}

pub classes_measured : Measured class_size class_in class_measure
classes_measured = record { same = λ c bs h. length-take-le c.name bs h }

-- the bytes in use, where the store has as many
pub bytes_used : (d : Dictionary) (store : List ℕ) → d.used ≤ length store → d.used ≡ bytes_in (dictionary_in d store)
bytes_used d store h =
    let t : List ℕ = text_in d store in
    let l : length t ≡ d.used = length-take-le d.used store h in
    let rows = sum_packed row_size row_in row_measure (vec_items d.rows) t rows_measured (omega (arith, d.rows_filled, d.classes_filled)) in
    let classes = sum_packed class_size class_in class_measure (vec_items d.classes) (drop d.row_bytes t) classes_measured (rw length-drop (omega (arith, d.classes_filled))) in
    omega (arith, d.rows_filled, d.classes_filled)

pub names_counted : (d : Dictionary) (store : List ℕ) → vec_len d.rows ≡ names_in (dictionary_in d store)
names_counted d store = d.rows.ok.0 ∙ sym (length_packed row_size row_in (vec_items d.rows) (text_in d store))
