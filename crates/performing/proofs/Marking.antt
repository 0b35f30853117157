-- A string that is being segmented: what stands when so many of the parameters have been marked.
use Rattle.std.proofs.Common.{◌≡◌, ℕ, suc, ◌+◌, ◌<◌, ◌≤◌, List, length, take, drop, sym, refl, ap, ◌∙◌, arith}
use Rattle.machine.specs.Texts.{Text, Code, highest_mark}
use Rattle.machine.specs.Dictionary.{Str, rest_of, change}
use Rattle.machine.specs.Strings.{with_mark, segmented, with_rest}
use Rattle.machine.specs.World.{parameter}
use Rattle.dictionary.specs.declared.dictionary.Dictionary.{Dictionary}
use Rattle.dictionary.specs.declared.string_place.StringPlace.{StringPlace}
use Rattle.dictionary.specs.Meant.{dictionary_in}
use Rattle.dictionary.specs.Finding.{FirstNamed, RowAt}
use Rattle.dictionary.specs.Editing.{Kept}
use Rattle.dictionary.specs.Strings.{place_of, string_in}
use Rattle.dictionary.proofs.Said.{body_length}
use Rattle.performing.proofs.Again.{changed_twice, as_it_stands, same_rest, rest_again, rest_there}
use Rattle.performing.proofs.Numbers.{Marked}
use Rattle.performing.proofs.Segments.{left, marked_by, one_marked, one_left}

-- by these parameters, of a string s of the dictionary d, which is now the string t of e; the parameters from n on are left,
-- and the number k is next
pub record Marking (code : Code) (ps : List Text) (d : Dictionary) (store : List ℕ) (s : StringPlace) (e : Dictionary) (after : List ℕ) (t : StringPlace) (n k : ℕ) : Type 0 where
  pub kept : Kept d e after
  pub at : RowAt e (place_of t)
  pub named : (name : Text) → FirstNamed d store name s.index → FirstNamed e after name t.index
  pub least : 1 ≤ k
  pub string : string_in t after ≡ with_rest (rest_of (string_in t after)) (string_in s store)
  pub meaning : (name : Text) → FirstNamed d store name s.index → dictionary_in e after ≡ change name (string_in t after) (dictionary_in d store)
  pub on : marked_by code k (left ps n) (rest_of (string_in t after)) ≡ (segmented code ps (string_in s store)).marked_text

pub begins : (code : Code) (ps : List Text) (d : Dictionary) (store : List ℕ) (s : StringPlace) (k : ℕ) → d.used ≤ length store → RowAt d (place_of s) → k ≡ suc (highest_mark code (string_in s store).body) → Marking code ps d store s d store s 1 k
begins code ps d store s k whole at number =
    let str : Str = string_in s store in
    record {
      kept = record { most_rows = refl; whole = whole };
      at = at;
      named = λ name first. first;
      least = omega arith;
      string = same_rest str;
      meaning = λ name first. sym (as_it_stands d store name s whole (record { first = first; at = at }));
      on = ap (λ i. marked_by code i (take 62 (drop 1 ps)) (rest_of str)) number;
    }

-- what a mark leaves
pub record Leaves (d : Dictionary) (store : List ℕ) (s : StringPlace) (e : Dictionary) (after : List ℕ) (t : StringPlace) (new : Text) : Type 0 where
  pub kept : Kept d e after
  pub at : RowAt e (place_of t)
  pub named : (name : Text) → FirstNamed d store name s.index → FirstNamed e after name t.index
  pub string : string_in t after ≡ with_rest new (string_in s store)
  pub meaning : (name : Text) → FirstNamed d store name s.index → dictionary_in e after ≡ change name (with_rest new (string_in s store)) (dictionary_in d store)

-- the pointer stays within the body
pointer_within : (d : Dictionary) (store : List ℕ) (s : StringPlace) → d.used ≤ length store → RowAt d (place_of s) → (string_in s store).pointer ≤ length (string_in s store).body
pointer_within d store s whole at = omega (arith, body_length d store s whole at, s.extent.within)

-- one parameter more
pub marks_one : (code : Code) (ps : List Text) (d e f : Dictionary) (store then after : List ℕ) (s t u : StringPlace) (n k mark : ℕ) → d.used ≤ length store → RowAt d (place_of s)
    → Marking code ps d store s e then t n k → 1 ≤ n → n < 63 → n < length ps → Marked code k mark
    → Leaves e then t f after u (with_mark (parameter n ps) mark (rest_of (string_in t then))) → Marking code ps d store s f after u (n + 1) (k + 1)
marks_one code ps d e f store then after s t u n k mark whole at h least most within marked leaves =
    let before : Str = string_in s store in
    let now : Str = string_in t then in
    let text : Text = rest_of now in
    let new : Text = with_mark (parameter n ps) mark text in
    let p1 = pointer_within d store s whole at in
    let p2 = pointer_within e then t h.kept.whole h.at in
    let again : with_rest new now ≡ with_rest new before = ap (with_rest new) h.string ∙ rest_again text new before p1 in
    let rest : rest_of (string_in u after) ≡ new = ap rest_of leaves.string ∙ rest_there new now p2 in
    record {
      kept = record { most_rows = leaves.kept.most_rows ∙ h.kept.most_rows; whole = leaves.kept.whole };
      at = leaves.at;
      named = λ name first. leaves.named name (h.named name first);
      least = omega arith;
      string = leaves.string ∙ again ∙ ap (λ x. with_rest x before) (sym rest);
      meaning = λ name first.
          leaves.meaning name (h.named name first)
          ∙ ap (change name (with_rest new now)) (h.meaning name first)
          ∙ changed_twice name (with_rest new now) now (dictionary_in d store)
          ∙ ap (λ x. change name x (dictionary_in d store)) (sym leaves.string);
      on = ap (marked_by code (k + 1) (left ps (n + 1))) (rest ∙ ap (λ m. with_mark (parameter n ps) m text) marked.mark_is)
          ∙ ap (λ i. marked_by code i (left ps (n + 1)) (with_mark (parameter n ps) (code.segment_mark k) text)) (let e : k + 1 ≡ suc k = omega arith in e)
          ∙ sym (one_marked code k (parameter n ps) (left ps (n + 1)) text marked.known)
          ∙ ap (λ l. marked_by code k l text) (sym (one_left ps n least most within))
          ∙ h.on;
    }

-- no parameter is left, or no number
pub ends : (code : Code) (ps : List Text) (d e : Dictionary) (store after : List ℕ) (s t : StringPlace) (n k : ℕ) (name : Text) → Marking code ps d store s e after t n k
    → marked_by code k (left ps n) (rest_of (string_in t after)) ≡ rest_of (string_in t after) → FirstNamed d store name s.index
    → dictionary_in e after ≡ change name (with_rest (segmented code ps (string_in s store)).marked_text (string_in s store)) (dictionary_in d store)
ends code ps d e store after s t n k name h over first =
    h.meaning name first
    ∙ ap (λ x. change name x (dictionary_in d store)) (h.string ∙ ap (λ x. with_rest x (string_in s store)) (sym over ∙ h.on))
