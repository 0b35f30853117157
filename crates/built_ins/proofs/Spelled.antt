-- A name that is spelled by letters, and the first entry of that name.
use Rattle.std.proofs.Common.{◌≡◌, ℕ, Bool, true, false, cond, ◌&&◌, ◌==◌, List, [], ◌∷◌, map, length, Some, None, Option, refl, ap, ◌∙◌, arith}
use Rattle.std.specs.Option.{option_map, MatchOption, IsSomeAnd}
use Rattle.std.specs.List.{zip, find, list_all}
use Rattle.std.specs.Str.{bytes_eq}
use Rattle.std.proofs.lemmas.Bool.{and_parts}
use Rattle.std.proofs.lemmas.Slice.Eq.{bytes_eq-Decides}
use Rattle.machine.specs.declared.built_in.BuiltIn.{BuiltIn}
use Rattle.machine.specs.Texts.{Code, Text, spelled}
use Rattle.machine.specs.BuiltIns.{all_built_ins, letters, first_named}
use Rattle.built_ins.specs.declared.table.BuiltInEntry.{BuiltInEntry}
use Rattle.built_ins.specs.Rows.{Row, row_of}
use Rattle.built_ins.specs.Entries.{entry_row}
use Rattle.built_ins.specs.Spelling.{letter_or_question}

-- the byte of a letter of the table
abbrev pub sign_of : Code → ℕ → ℕ
sign_of code l = code.named (letter_or_question l)

pub zipped_is : (code : Code) (ls ns : List ℕ) → length ls ≡ length ns
    → list_all (λ p. sign_of code p.0 == p.1) (zip ls ns) ≡ bytes_eq (spelled code (map letter_or_question ls)) ns
zipped_is code [] [] e = refl
zipped_is code [] (n ∷ ns) e = absurd (omega arith)
zipped_is code (l ∷ ls) [] e = absurd (omega arith)
zipped_is code (l ∷ ls) (n ∷ ns) e = ap (λ r. sign_of code l == n && r) (zipped_is code ls ns (omega arith))

-- the names have no letters but A to Z and the question mark
abbrev plain : BuiltIn → Bool
plain f = bytes_eq (map letter_or_question (letters f)) (letters f)

-- is the entry's name this one?
abbrev pub is_named : Code → Text → BuiltInEntry → Bool
is_named code n e = bytes_eq (spelled code (map letter_or_question e.letters.now)) n

first_or_later : (e : BuiltInEntry) (r : Bool) (found : Option BuiltInEntry) → option_map (λ (x : BuiltInEntry). x.function) (cond r (Some e) found) ≡ cond r (Some e.function) (option_map (λ (x : BuiltInEntry). x.function) found)
first_or_later e true found = refl
first_or_later e false found = refl

first_named_is : (code : Code) (n : Text) (es : List BuiltInEntry) (fs : List BuiltIn) → map entry_row es ≡ map row_of fs → list_all plain fs ≡ true
    → option_map (λ (x : BuiltInEntry). x.function) (find (is_named code n) es) ≡ first_named code n fs
first_named_is code n [] [] h t = refl
first_named_is code n [] (f ∷ fs) h t = absurd (omega (arith, ap length h))
first_named_is code n (e ∷ es) [] h t = absurd (omega (arith, ap length h))
first_named_is code n (e ∷ es) (f ∷ fs) h t =
    let first : entry_row e ≡ row_of f = cc in
    let rest : map entry_row es ≡ map row_of fs = cc in
    let tests : (plain f ≡ true) × (list_all plain fs ≡ true) = and_parts (plain f) (list_all plain fs) t in
    let function : e.function ≡ f = ap (λ (r : Row). r.function) first in
    let name : map letter_or_question e.letters.now ≡ letters f = ap (λ (r : Row). map letter_or_question r.letters) first ∙ (bytes_eq-Decides _ (letters f)).0 tests.0 in
    first_or_later e (is_named code n e) (find (is_named code n) es)
    ∙ rw (name, function, first_named_is code n es fs rest tests.1) refl

pub named_is : (code : Code) (n : Text) (es : List BuiltInEntry) → map entry_row es ≡ map row_of all_built_ins
    → option_map (λ (x : BuiltInEntry). x.function) (find (is_named code n) es) ≡ first_named code n all_built_ins
named_is code n es h = first_named_is code n es all_built_ins h refl

-- the entry that was found, as the function that `map` makes of it
pub mapped_is : {A : Type 0} (v : A → BuiltInEntry) (o : Option A) (r : Option BuiltIn) (P : A → BuiltIn → Type 0) → MatchOption o (r ≡ None) (λ x. IsSomeAnd r (P x))
    → ((x : A) (f : BuiltIn) → P x f → f ≡ (v x).function) → r ≡ option_map (λ (e : BuiltInEntry). e.function) (option_map v o)
mapped_is v None r P h each = h
mapped_is v (Some x) None P h each = absurd h
mapped_is v (Some x) (Some f) P h each = ap Some (each x f h)
