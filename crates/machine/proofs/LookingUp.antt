-- What a name means after a definition, an erasure and a fetch. Assumes nothing.
use Rattle.std.proofs.Common.{◌≡◌, ℕ, Bool, true, false, cond, ◌&&◌, leb, List, [], ◌∷◌, Some, None, Option, sym, refl, ap, ◌∙◌, ap₂}
use Rattle.std.specs.Option.{option_or}
use Rattle.std.specs.Str.{bytes_eq}
use Rattle.std.proofs.lemmas.Slice.Eq.{bytes_eq-Decides}
use Rattle.std.proofs.lemmas.Bool.{both_ways, cond-true, cond-false, and_right, not_from_true, not_from_false}
use Rattle.machine.specs.declared.amounts.Amounts.{Amounts}
use Rattle.machine.specs.declared.built_in.BuiltIn.{BuiltIn}
use Rattle.machine.specs.Texts.{Text, Code, proper_name, proper_body}
use Rattle.machine.specs.Faults.{Question, names?, store?, shortage, foreign_text}
use Rattle.machine.specs.Chain.{Kind, names, kind, amount, Run, fault, ask, Tally, passed, gave, stopped, walk}
use Rattle.machine.specs.BuiltIns.{name_of, first_named, all_built_ins}
use Rattle.machine.specs.Dictionary.{Dictionary, Row, Meaning, built_in, string, new_string, in_rows, with_row, without_row, if_stands, without_original, look_up, define, names_in, bytes_in}
use Rattle.machine.specs.World.{World, with_dictionary, p1, p2}
use Rattle.machine.specs.Libraries.{fetching}
use Rattle.machine.specs.Strings.{copied_from, copy_to}
use Rattle.machine.specs.Laws.{ADefinedNameIsLookedUp, Copied, ACopyOfAStringIsItsRest, ACopyOfABuiltInIsThatBuiltIn, OtherNamesStayWhenOneIsDefined, Distinct, DefiningKeepsNamesDistinct, ChangingKeepsNamesDistinct, ErasingKeepsNamesDistinct, AnErasedNameIsGone, OtherNamesStayWhenOneIsErased, last_fetched, FetchedStringsAreLookedUp}
use Rattle.machine.proofs.Common.{never, false_from}

same : (a b : Text) → a ≡ b → bytes_eq a b ≡ true
same a b = (bytes_eq-Decides a b).1

same_from : (a b : Text) → bytes_eq a b ≡ true → a ≡ b
same_from a b = (bytes_eq-Decides a b).0

differs : (a b : Text) → (a ≡ b → ⊥) → bytes_eq a b ≡ false
differs a b h = false_from _ (λ e. h (same_from a b e))

-- ROWS

row_defined : (n : Text) (m : Meaning) (rs : List Row) → in_rows n (with_row n m rs) ≡ Some m
row_defined n m [] = cond-true _ _ _ (same n n refl)
row_defined n m (r ∷ rs) = go (bytes_eq r.name n) refl (row_defined n m rs)
  where
    go : (t : Bool) → bytes_eq r.name n ≡ t → in_rows n (with_row n m rs) ≡ Some m →
        in_rows n (cond t (record { name = n; meaning = m } ∷ rs) (r ∷ with_row n m rs)) ≡ Some m
    go true e h = cond-true _ _ _ (same n n refl)
    go false e h = cond-false _ _ _ e ∙ h

-- a row of the name n is passed over in the search for another
passed_over : (r : Row) (n other : Text) (o : Option Meaning) → (other ≡ n → ⊥) → r.name ≡ n →
    cond (bytes_eq r.name other) (Some r.meaning) o ≡ o
passed_over r n other o h e = cond-false _ _ _ (differs r.name other (λ same. h (sym same ∙ e)))

row_kept_from_defined : (n other : Text) (m : Meaning) → (other ≡ n → ⊥) → (rs : List Row) →
    in_rows other (with_row n m rs) ≡ in_rows other rs
row_kept_from_defined n other m h [] = passed_over (record { name = n; meaning = m }) n other None h refl
row_kept_from_defined n other m h (r ∷ rs) = go (bytes_eq r.name n) refl (row_kept_from_defined n other m h rs)
  where
    go : (t : Bool) → bytes_eq r.name n ≡ t → in_rows other (with_row n m rs) ≡ in_rows other rs →
        in_rows other (cond t (record { name = n; meaning = m } ∷ rs) (r ∷ with_row n m rs)) ≡ in_rows other (r ∷ rs)
    go true e k =
        passed_over (record { name = n; meaning = m }) n other (in_rows other rs) h refl
        ∙ sym (passed_over r n other (in_rows other rs) h (same_from _ _ e))
    go false e k = ap (cond (bytes_eq r.name other) (Some r.meaning)) k

row_kept_from_erased : (n other : Text) → (other ≡ n → ⊥) → (rs : List Row) →
    in_rows other (without_row n rs) ≡ in_rows other rs
row_kept_from_erased n other h [] = refl
row_kept_from_erased n other h (r ∷ rs) = go (bytes_eq r.name n) refl (row_kept_from_erased n other h rs)
  where
    go : (t : Bool) → bytes_eq r.name n ≡ t → in_rows other (without_row n rs) ≡ in_rows other rs →
        in_rows other (cond t rs (r ∷ without_row n rs)) ≡ in_rows other (r ∷ rs)
    go true e k = sym (passed_over r n other (in_rows other rs) h (same_from _ _ e))
    go false e k = ap (cond (bytes_eq r.name other) (Some r.meaning)) k

-- the rows behind one of the name n have no other
none_behind : (r : Row) (rs : List Row) (n : Text) → bytes_eq r.name n ≡ true → in_rows r.name rs ≡ None → in_rows n rs ≡ None
none_behind r rs n e h = rw (same_from r.name n e) at h

row_erased : (n : Text) (rs : List Row) → Distinct rs → in_rows n (without_row n rs) ≡ None
row_erased n [] d = refl
row_erased n (r ∷ rs) d = go (bytes_eq r.name n) refl (row_erased n rs d.1)
  where
    go : (t : Bool) → bytes_eq r.name n ≡ t → in_rows n (without_row n rs) ≡ None → in_rows n (cond t rs (r ∷ without_row n rs)) ≡ None
    go true e k = none_behind r rs n e d.0
    go false e k = cond-false _ _ _ e ∙ k

pub distinct : (n : Text) (m : Meaning) (rs : List Row) → Distinct rs → Distinct (with_row n m rs)
distinct n m [] d = (refl, tt)
distinct n m (r ∷ rs) d = go (bytes_eq r.name n) refl (distinct n m rs d.1)
  where
    go : (t : Bool) → bytes_eq r.name n ≡ t → Distinct (with_row n m rs) →
        Distinct (cond t (record { name = n; meaning = m } ∷ rs) (r ∷ with_row n m rs))
    go true e k = (none_behind r rs n e d.0, d.1)
    go false e k =
        (row_kept_from_defined n r.name m (λ same_name. both_ways _ e (same _ _ same_name)) rs ∙ d.0, k)

pub distinct_without : (n : Text) (rs : List Row) → Distinct rs → Distinct (without_row n rs)
distinct_without n [] d = tt
distinct_without n (r ∷ rs) d = go (bytes_eq r.name n) refl (distinct_without n rs d.1)
  where
    go : (t : Bool) → bytes_eq r.name n ≡ t → Distinct (without_row n rs) → Distinct (cond t rs (r ∷ without_row n rs))
    go true e k = d.1
    go false e k = (row_kept_from_erased n r.name (λ same_name. both_ways _ e (same _ _ same_name)) rs ∙ d.0, k)

-- ORIGINAL BUILT-INS

named : (code : Code) (n : Text) (fs : List BuiltIn) (f : BuiltIn) → first_named code n fs ≡ Some f → name_of code f ≡ n
named code n [] f e = absurd (never (cc))
named code n (g ∷ fs) f e = go (bytes_eq (name_of code g) n) refl e (named code n fs f)
  where
    go : (t : Bool) → bytes_eq (name_of code g) n ≡ t → cond t (Some g) (first_named code n fs) ≡ Some f →
        (first_named code n fs ≡ Some f → name_of code f ≡ n) → name_of code f ≡ n
    go true p q k = let same-function : g ≡ f = cc in ap (name_of code) (sym same-function) ∙ same_from _ _ p
    go false p q k = k q

original_gone : (code : Code) (n : Text) (stands : BuiltIn → Bool) (fs : List BuiltIn) →
    if_stands (without_original code n stands) (first_named code n fs) ≡ None
original_gone code n stands fs = go (first_named code n fs) refl
  where
    go : (o : Option BuiltIn) → first_named code n fs ≡ o → if_stands (without_original code n stands) o ≡ None
    go None e = refl
    go (Some f) e = cond-false _ _ _ (and_right (stands f) _ (not_from_true _ (same _ _ (named code n fs f e))))

and_true : (b : Bool) → (b && true) ≡ b
and_true true = refl
and_true false = refl

original_kept : (code : Code) (n other : Text) (stands : BuiltIn → Bool) (fs : List BuiltIn) → (other ≡ n → ⊥) →
    if_stands (without_original code n stands) (first_named code other fs) ≡ if_stands stands (first_named code other fs)
original_kept code n other stands fs h = go (first_named code other fs) refl
  where
    go : (o : Option BuiltIn) → first_named code other fs ≡ o → if_stands (without_original code n stands) o ≡ if_stands stands o
    go None e = refl
    go (Some f) e =
        ap (λ t. cond t (Some (built_in f)) None)
        (ap (λ t. stands f && t) (not_from_false _ (differs _ _ (λ same_name. h (sym (named code other fs f e) ∙ same_name)))) ∙ and_true (stands f))

-- THE DICTIONARY

pub defined : ADefinedNameIsLookedUp
defined code d n m = rw (row_defined n m d.rows)

copied : (code : Code) (ps : List Text) (w : World) (m : Meaning) → look_up code w.dictionary (p2 ps) ≡ Some m → Copied code ps w (copied_from m)
copied code ps w m h =
    record { after = define code (p1 ps) (copied_from m) w.dictionary; defines = ap (copy_to code ps w) h; means = defined code w.dictionary (p1 ps) (copied_from m) }

pub string_copied : ACopyOfAStringIsItsRest
string_copied code ps w s h = copied code ps w (string s) h

pub built_in_copied : ACopyOfABuiltInIsThatBuiltIn
built_in_copied code ps w f h = copied code ps w (built_in f) h

pub kept_from_defined : OtherNamesStayWhenOneIsDefined
kept_from_defined code d n other m h = ap₂ option_or (row_kept_from_defined n other m h d.rows) (original_kept code n other d.originals all_built_ins h)

pub defined_distinct : DefiningKeepsNamesDistinct
defined_distinct code d n m = distinct n m d.rows

pub changed_distinct : ChangingKeepsNamesDistinct
changed_distinct d n s = distinct n (string s) d.rows

pub erased_distinct : ErasingKeepsNamesDistinct
erased_distinct code d n = distinct_without n d.rows

pub erased : AnErasedNameIsGone
erased code d n h = ap₂ option_or (row_erased n d.rows h) (original_gone code n d.originals all_built_ins)

pub kept_from_erased : OtherNamesStayWhenOneIsErased
kept_from_erased code d n other h = ap₂ option_or (row_kept_from_erased n other h d.rows) (original_kept code n other d.originals all_built_ins h)

-- FETCHED STRINGS

-- a question let pass, and what comes behind it
let_pass : (b : Amounts) (t : Tally) (q : Question) (n : ℕ) (w : World) (x : Run World World) (v : World) (u : Tally) →
    walk b t (ask q n w x) ≡ gave v u → walk b (passed (kind q) n t) x ≡ gave v u
let_pass b t q n w x v u = go (leb n (amount (kind q) b))
  where
    go : (yes_it_is : Bool) → cond yes_it_is (walk b (passed (kind q) n t) x) (stopped (shortage q) w t) ≡ gave v u →
        walk b (passed (kind q) n t) x ≡ gave v u
    go true e = e
    go false e = absurd (never (cc))

unless_foreign : (p : Bool) (b : Amounts) (t : Tally) (x : Run World World) (w v : World) (u : Tally) →
    walk b t (cond p x (fault foreign_text w)) ≡ gave v u → walk b t x ≡ gave v u
unless_foreign true b t x w v u e = e
unless_foreign false b t x w v u e = absurd (never (cc))

or_assoc : {X : Type 0} (a b c : Option X) → option_or (option_or a b) c ≡ option_or a (option_or b c)
or_assoc None b c = refl
or_assoc (Some x) b c = refl

-- one string is defined
one_defined : (code : Code) (d : Dictionary) (name n : Text) (m : Meaning) →
    look_up code (define code name m d) n ≡ option_or (cond (bytes_eq name n) (Some m) None) (look_up code d n)
one_defined code d name n m = go (bytes_eq name n) refl
  where
    go : (t : Bool) → bytes_eq name n ≡ t → look_up code (define code name m d) n ≡ option_or (cond t (Some m) None) (look_up code d n)
    go true e = rw (← same_from name n e) (defined code d name m)
    go false e = kept_from_defined code d name n m (λ same_name. both_ways _ e (same _ _ (sym same_name)))

pub fetched_looked_up : FetchedStringsAreLookedUp
fetched_looked_up code b t u [] w v e n = let z : w ≡ v = cc in ap (λ (x : World). look_up code x.dictionary n) (sym z)
fetched_looked_up code b t u (s ∷ ss) w v e n =
    let d = define code s.name (string (new_string s.body)) w.dictionary in
    let rest = fetching code ss (with_dictionary d w) in
    let store = ask store? (bytes_in d) w rest in
    let proper = proper_name code s.name && proper_body code s.body in
    let count = passed names (names_in d) t in
    fetched_looked_up code b (passed Kind.store (bytes_in d) count) u ss (with_dictionary d w) v
    (let_pass b count store? (bytes_in d) w rest v u
    (let_pass b t names? (names_in d) w store v u
    (unless_foreign proper b t (ask names? (names_in d) w store) w v u e))) n
    ∙ ap (option_or (last_fetched n ss)) (one_defined code w.dictionary s.name n (string (new_string s.body)))
    ∙ sym (or_assoc (last_fetched n ss) _ _)
