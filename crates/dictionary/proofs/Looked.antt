-- What a name is found to mean.
use Rattle.std.proofs.Common.{◌≡◌, ℕ, ◌+◌, ◌≤◌, Bool, List, length, drop, Some, None, Option, sym, refl, ap, ◌∙◌}
use Rattle.std.specs.Option.{option_map, option_or}
use Rattle.std.proofs.lemmas.List.{drop-drop}
use Rattle.machine.specs.declared.built_in.BuiltIn.{BuiltIn}
use Rattle.machine.specs.Texts.{Text, Code, first_place}
use Rattle.machine.specs.BuiltIns.{built_in_named}
use Rattle.machine.specs.Dictionary.{built_in, string, if_stands, look_up}
use Rattle.machine.specs.Dictionary as machine
use Rattle.dictionary.specs.declared.dictionary.Dictionary.{Dictionary}
use Rattle.dictionary.specs.declared.finding.Place.{Place}
use Rattle.dictionary.specs.declared.meaning.Meaning.{Meaning}
use Rattle.dictionary.specs.declared.meaning.Meaning.TheVariants as found
use Rattle.dictionary.specs.declared.rows.RowMeaning.{RowMeaning}
use Rattle.dictionary.specs.declared.rows.RowMeaning.TheVariants as stored
use Rattle.dictionary.specs.Decoding.{meaning_in}
use Rattle.dictionary.specs.Meant.{stands, rows_in, dictionary_in}
use Rattle.dictionary.specs.Finding.{row_named, Standing}
use Rattle.dictionary.specs.LookingUp.{shown, meaning_at, meaning_of}
use Rattle.dictionary.proofs.Located.{before, read}
use Rattle.dictionary.proofs.Firsts.{in_rows_at, in_rows_none}

shown_is : (p : Place) (m : RowMeaning) (store : List ℕ) → shown store (meaning_at p m) ≡ meaning_in m (drop (p.start + p.row.name) store)
shown_is p (stored.String e) store = refl
shown_is p (stored.BuiltIn f) store = refl

abbrev or_original : (BuiltIn → Bool) → Option BuiltIn → Option machine.Meaning → Option machine.Meaning
or_original originals f m = option_or m (if_stands originals f)

-- a row of the name is found
pub row_looked_up : (code : Code) (d : Dictionary) (store : List ℕ) (n : Text) (p : Place) (m : Meaning) → d.used ≤ length store → Standing d store n p → m ≡ meaning_of p → Some (shown store m) ≡ look_up code (dictionary_in d store) n
row_looked_up code d store n p m h stand m_is =
    let there = read d store p.index p.row stand.at.row h in
    let row : machine.in_rows n (rows_in d store) ≡ Some (meaning_in p.row.meaning (drop p.row.name (drop (before d p.index) store))) =
    in_rows_at n (rows_in d store) p.index stand.first ∙ ap (option_map (λ (r : machine.Row). r.meaning)) there.there in
    ap (λ x. Some (shown store x)) m_is
    ∙ ap (λ x. Some x)
    (shown_is p p.row.meaning store
    ∙ ap (meaning_in p.row.meaning) (sym (drop-drop p.row.name p.start store) ∙ ap (λ k. drop p.row.name (drop k store)) stand.at.start))
    ∙ sym (ap (or_original (stands d.originals) (built_in_named code n)) row)

-- none is found, and the original counts
pub original_looked_up : (code : Code) (d : Dictionary) (store : List ℕ) (n : Text) (r : Option Meaning) (f : Option BuiltIn) → first_place (row_named n) (rows_in d store) ≡ None → option_map built_in f ≡ if_stands (stands d.originals) (built_in_named code n) → r ≡ option_map found.BuiltIn f → option_map (shown store) r ≡ look_up code (dictionary_in d store) n
original_looked_up code d store n r f none is r_is =
    ap (option_map (shown store)) r_is
    ∙ through f
    ∙ is
    ∙ sym (ap (or_original (stands d.originals) (built_in_named code n)) (in_rows_none n (rows_in d store) none))
  where
    through : (f : Option BuiltIn) → option_map (shown store) (option_map found.BuiltIn f) ≡ option_map built_in f
    through None = refl
    through (Some x) = refl
