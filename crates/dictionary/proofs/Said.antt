-- A string whose row is changed: what it is from then on.
use Rattle.std.proofs.Common.{◌≡◌, ℕ, ◌+◌, ◌≤◌, List, [], ◌++◌, length, set, take, drop, Some, sym, ap, ◌∙◌, arith, length-append, length-drop}
use Rattle.std.specs.List.{splice}
use Rattle.std.proofs.lemmas.List.{length-take-le, drop_all, take_all, append-nil, take-append-drop}
use Rattle.machine.specs.Texts.{Text, first_place}
use Rattle.machine.specs.Dictionary.{Str, Meaning, string, with_row}
use Rattle.machine.specs.Strings.{appended}
use Rattle.dictionary.specs.declared.dictionary.Dictionary.{Dictionary}
use Rattle.dictionary.specs.declared.string_place.StringPlace.{StringPlace}
use Rattle.dictionary.specs.Meant.{rows_in}
use Rattle.dictionary.specs.Finding.{row_named, RowAt, name_at}
use Rattle.dictionary.specs.Editing.{row_of}
use Rattle.dictionary.specs.Strings.{place_of, string_in}
use Rattle.dictionary.proofs.Located.{spot}
use Rattle.dictionary.proofs.Firsts.{with_row_at}
use Rattle.dictionary.proofs.Changed.{name_stands}

-- the row of a name that means another string now
pub row_said : (d : Dictionary) (store : List ℕ) (n : Text) (s : StringPlace) (value : Meaning) (new : Str) → d.used ≤ length store → RowAt d (place_of s) → first_place (row_named n) (rows_in d store) ≡ Some s.index → value ≡ string new → set (rows_in d store) s.index (row_of (name_at (place_of s) store) value) ≡ with_row n (string new) (rows_in d store)
row_said d store n s value new h at first is =
    ap (λ (x : Text). set (rows_in d store) s.index (row_of x value)) (name_stands d store n (place_of s) h (record { first = first; at = at }))
    ∙ ap (λ (x : Meaning). set (rows_in d store) s.index (row_of n x)) is
    ∙ sym (with_row_at n (string new) (rows_in d store) s.index first)

-- the body is all there
pub body_length : (d : Dictionary) (store : List ℕ) (s : StringPlace) → d.used ≤ length store → RowAt d (place_of s) → length (string_in s store).body ≡ s.extent.length
body_length d store s h at =
    let here = spot d (place_of s) at in
    length-take-le s.extent.length (drop (s.start + s.name) store) (rw length-drop (omega arith))

abbrev pub string_of : List ℕ → ℕ → Meaning
string_of body pointer = string (record { body = body; pointer = pointer })

-- bytes behind the body, and the pointer behind them
pub meaning_appended : (body more : List ℕ) (n : ℕ) (pointer : ℕ) → length body ≡ n → string_of (take (n + length more) (splice body n n more)) (n + length more) ≡ string (appended more (record { body = body; pointer = pointer }))
meaning_appended body more n pointer size =
    let all : splice body n n more ≡ body ++ more =
    ap (λ (l : List ℕ). l ++ (more ++ drop n body)) (take_all n body (omega arith))
    ∙ ap (λ (l : List ℕ). body ++ (more ++ l)) (drop_all n body (omega arith))
    ∙ ap (λ (l : List ℕ). body ++ l) (append-nil more) in
    let total : length (body ++ more) ≡ n + length more = omega (arith, length-append body more) in
    ap (λ (l : List ℕ). string_of (take (n + length more) l) (n + length more)) all
    ∙ ap (λ (l : List ℕ). string_of l (n + length more)) (take_all (n + length more) (body ++ more) (omega arith))
    ∙ ap (string_of (body ++ more)) (sym total)

-- the same body, and another pointer
pub meaning_pointed : (body : List ℕ) (n pointer : ℕ) → length body ≡ n → string_of (take n body) pointer ≡ string_of body pointer
meaning_pointed body n pointer size = ap (λ (l : List ℕ). string_of l pointer) (take_all n body (omega arith))

pub nothing_spliced : (xs : List ℕ) (k : ℕ) → xs ≡ splice xs k k []
nothing_spliced xs k = sym (take-append-drop k xs)
