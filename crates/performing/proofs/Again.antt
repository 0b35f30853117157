-- A string that changes again, and one that stays as it is.
use Rattle.std.proofs.Common.{◌≡◌, ℕ, ◌≤◌, List, ◌++◌, length, take, drop, set, Some, sym, ap, ◌∙◌, arith}
use Rattle.std.specs.List.{slice_get}
use Rattle.std.proofs.lemmas.List.{take-append-drop, length-take-le, drop-append-le, drop_all, drop-drop, set-get_or, take-append-le, take_all}
use Rattle.std.proofs.lemmas.Option.{get_or_from_slice_get}
use Rattle.machine.specs.Texts.{Text}
use Rattle.machine.specs.Dictionary.{Dictionary, Row, Str, string, rest_of, change}
use Rattle.machine.specs.Strings.{with_rest}
use Rattle.dictionary.specs.declared.dictionary.Dictionary.{Dictionary as Held}
use Rattle.dictionary.specs.declared.string_place.StringPlace.{StringPlace}
use Rattle.dictionary.specs.Decoding.{row_in}
use Rattle.dictionary.specs.Meant.{stands, rows_in, classes_in, dictionary_in}
use Rattle.dictionary.specs.Finding.{Standing, name_at}
use Rattle.dictionary.specs.Editing.{row_of}
use Rattle.dictionary.specs.Strings.{place_of, string_in}
use Rattle.dictionary.proofs.Meant.{parts}
use Rattle.dictionary.proofs.Firsts.{with_row_at, with_row_twice}
use Rattle.dictionary.proofs.Located.{read}
use Rattle.dictionary.proofs.Changed.{name_stands}
use Rattle.dictionary.proofs.Said.{string_of}

-- the later change counts
pub changed_twice : (n : Text) (s t : Str) (d : Dictionary) → change n s (change n t d) ≡ change n s d
changed_twice n s t d = ap (λ rows. parts d.originals rows d.classes) (with_row_twice n (string s) (string t) d.rows)

set_same : {X : Type 0} (xs : List X) (i : ℕ) (x : X) → slice_get xs i ≡ Some x → set xs i x ≡ xs
set_same xs i x there = ap (set xs i) (sym (get_or_from_slice_get xs i x x there)) ∙ set-get_or xs i x

-- a name that means its string again
pub as_it_stands : (d : Held) (store : List ℕ) (n : Text) (s : StringPlace) → d.used ≤ length store → Standing d store n (place_of s) → change n (string_in s store) (dictionary_in d store) ≡ dictionary_in d store
as_it_stands d store n s h at =
    let str : Str = string_in s store in
    let rows : List Row = rows_in d store in
    let row : List ℕ → Row = λ bytes. row_of (name_at (place_of s) store) (string_of (take s.extent.length bytes) s.extent.pointer) in
    let there : slice_get rows s.index ≡ Some (row_of n (string str)) =
    (read d store s.index (place_of s).row at.at.row h).there
    ∙ ap (λ k. Some (row_in (place_of s).row (drop k store))) (sym at.at.start)
    ∙ ap (λ bytes. Some (row bytes)) (drop-drop s.name s.start store)
    ∙ ap (λ x. Some (row_of x (string str))) (name_stands d store n (place_of s) h at) in
    ap (λ rs. parts (stands d.originals) rs (classes_in d store))
    (with_row_at n (string str) rows s.index at.first ∙ set_same rows s.index (row_of n (string str)) there)

-- The rest of a string.

pub same_rest : (s : Str) → s ≡ with_rest (rest_of s) s
same_rest s = ap (λ (x : Text). let t : Str = record { body = x; pointer = s.pointer } in t) (sym (take-append-drop s.pointer s.body))

pub rest_again : (t u : Text) (s : Str) → s.pointer ≤ length s.body → with_rest u (with_rest t s) ≡ with_rest u s
rest_again t u s h =
    let front : List ℕ = take s.pointer s.body in
    let size : length front ≡ s.pointer = length-take-le s.pointer s.body h in
    ap (λ (x : Text). let v : Str = record { body = x ++ u; pointer = s.pointer } in v)
    (take-append-le s.pointer front t (omega arith) ∙ take_all s.pointer front (omega arith))

pub rest_there : (t : Text) (s : Str) → s.pointer ≤ length s.body → rest_of (with_rest t s) ≡ t
rest_there t s h =
    let front : List ℕ = take s.pointer s.body in
    let size : length front ≡ s.pointer = length-take-le s.pointer s.body h in
    drop-append-le s.pointer front t (omega arith) ∙ ap (λ (x : Text). x ++ t) (drop_all s.pointer front (omega arith))
