-- What a dictionary takes where a name means something else, or something new.
use Rattle.std.proofs.Common.{◌≡◌, ℕ, ◌+◌, ◌<◌, ◌≤◌, Bool, List, [], ◌∷◌, ◌++◌, length, get_or, set, None, sym, ap, ◌∙◌, arith, length-append}
use Rattle.std.specs.Prelude.{vec_len}
use Rattle.std.specs.List.{sum_by}
use Rattle.std.proofs.lemmas.List.{length-set}
use Rattle.std.proofs.lemmas.List.Sums.{sum_by_push, sum_by-set}
use Rattle.std.proofs.lemmas.Option.{slice_get-get_or}
use Rattle.std.proofs.lemmas.Slice.Eq.{bytes_eq-Decides}
use Rattle.machine.specs.Texts.{Text, first_place}
use Rattle.machine.specs.Dictionary.{Class, Meaning, body_of, with_row, with_class, names_in, bytes_in, with_classes}
use Rattle.dictionary.specs.declared.finding.Place.{Place}
use Rattle.dictionary.specs.declared.class_place.ClassPlace.{ClassPlace}
use Rattle.dictionary.specs.declared.dictionary.Dictionary.{Dictionary}
use Rattle.dictionary.specs.Decoding.{body_size}
use Rattle.dictionary.specs.Meant.{rows_in, classes_in, dictionary_in}
use Rattle.dictionary.specs.Finding.{row_named, Standing, class_named, ClassStanding}
use Rattle.dictionary.specs.Editing.{row_of, with_rows}
use Rattle.dictionary.proofs.Sizes.{row_measure, class_measure, bytes_used, names_counted}
use Rattle.dictionary.proofs.Firsts.{with_row_at, with_row_new, with_class_at, with_class_new, first_within, first_passes}
use Rattle.dictionary.proofs.Rooms.{put_size}
use Rattle.dictionary.proofs.ClassRows.{counted}

-- the name has a row
pub record RowTaken (d : Dictionary) (store : List ℕ) (n : Text) (m : Meaning) (old : ℕ) : Type 0 where
  pub names : vec_len d.rows ≡ names_in (with_rows (with_row n m (rows_in d store)) (dictionary_in d store))
  pub bytes : bytes_in (with_rows (with_row n m (rows_in d store)) (dictionary_in d store)) + old ≡ d.used + length (body_of m)

pub row_taken : (d : Dictionary) (store : List ℕ) (n : Text) (p : Place) (m : Meaning) → d.used ≤ length store → Standing d store n p → RowTaken d store n m (body_size p.row.meaning)
row_taken d store n p m h stands =
    record {
      names = names_counted d store ∙ sym (ap length (with_row_at n m (rows_in d store) p.index stands.first) ∙ length-set (rows_in d store) p.index (row_of n m));
      bytes = put_size d store n p m h stands;
    }

-- the name has none
pub record NewTaken (d : Dictionary) (store : List ℕ) (n : Text) (m : Meaning) : Type 0 where
  pub names : vec_len d.rows + 1 ≡ names_in (with_rows (with_row n m (rows_in d store)) (dictionary_in d store))
  pub bytes : d.used + length n + length (body_of m) ≡ bytes_in (with_rows (with_row n m (rows_in d store)) (dictionary_in d store))

pub new_taken : (d : Dictionary) (store : List ℕ) (n : Text) (m : Meaning) → d.used ≤ length store → first_place (row_named n) (rows_in d store) ≡ None → NewTaken d store n m
new_taken d store n m h none =
    let rows = rows_in d store in
    let more : with_row n m rows ≡ rows ++ row_of n m ∷ [] = with_row_new n m rows none in
    record {
      names = omega (arith, ap length more, length-append rows (row_of n m ∷ []), names_counted d store);
      bytes = omega (arith, ap (sum_by row_measure) more, sum_by_push row_measure rows (row_of n m), bytes_used d store h);
    }

abbrev class_of : Text → List Bool → Class
class_of n m = record { name = n; members = m }

-- the name has a class
pub record ClassTaken (d : Dictionary) (store : List ℕ) (n : Text) (m : List Bool) (more : ℕ) (bytes : ℕ) : Type 0 where
  pub classes : vec_len d.classes + more ≡ length (with_class n m (classes_in d store))
  pub bytes_are : d.used + bytes ≡ bytes_in (with_classes (with_class n m (classes_in d store)) (dictionary_in d store))

pub class_taken : (d : Dictionary) (store : List ℕ) (n : Text) (p : ClassPlace) (m : List Bool) → d.used ≤ length store → ClassStanding d store n p → ClassTaken d store n m 0 0
class_taken d store n p m h stands =
    let cs : List Class = classes_in d store in
    let i : ℕ = p.index in
    let blank : Class = class_of [] [] in
    let within : i < length cs = first_within (class_named n) cs i stands.first in
    let same : with_class n m cs ≡ set cs i (class_of n m) = with_class_at n m cs i stands.first in
    let old : class_measure (get_or cs i blank) ≡ length n =
    ap length ((bytes_eq-Decides (get_or cs i blank).name n).0 (first_passes (class_named n) cs i (get_or cs i blank) stands.first (slice_get-get_or cs i blank within))) in
    record {
      classes = omega (arith, ap length same, length-set cs i (class_of n m), counted d store, d.classes.ok.0);
      bytes_are = omega (arith, ap (sum_by class_measure) same, sum_by-set class_measure cs i (class_of n m) blank within, bytes_used d store h);
    }

pub new_class_taken : (d : Dictionary) (store : List ℕ) (n : Text) (m : List Bool) → d.used ≤ length store → first_place (class_named n) (classes_in d store) ≡ None → ClassTaken d store n m 1 (length n)
new_class_taken d store n m h none =
    let cs : List Class = classes_in d store in
    let more : with_class n m cs ≡ cs ++ class_of n m ∷ [] = with_class_new n m cs none in
    record {
      classes = omega (arith, ap length more, length-append cs (class_of n m ∷ []), counted d store, d.classes.ok.0);
      bytes_are = omega (arith, ap (sum_by class_measure) more, sum_by_push class_measure cs (class_of n m), bytes_used d store h);
    }
