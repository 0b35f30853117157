-- No call gives two rows, or two classes, one name. Assumes nothing.
use Rattle.std.proofs.Common.{◌≡◌, Bool, true, false, cond, List, [], ◌∷◌, Some, None, refl, ap, subst}
use Rattle.std.specs.Str.{bytes_eq}
use Rattle.machine.specs.Texts.{Text, Code}
use Rattle.machine.specs.Dictionary.{new_dictionary, Row, Class, Meaning, string, new_string, in_rows, with_row, without_row, in_classes, with_class, without_class}
use Rattle.machine.specs.Calls.{new}
use Rattle.machine.specs.Laws.{Distinct}
use Rattle.machine.specs.Invariants.{DistinctClasses, NamesDistinct, CallsKeepNamesDistinct, NamesAreAlwaysDistinct}
use Rattle.machine.proofs.Common.{never}
use Rattle.machine.proofs.LookingUp.{distinct, distinct_without}
use Rattle.machine.proofs.Edits.{Lasting}
use Rattle.machine.proofs.AllCalls.{call_lasts, calls_last}

-- CLASSES, as rows of the same names

abbrev some_meaning : Meaning
some_meaning = string (new_string [])

abbrev rows_of : List Class → List Row
rows_of [] = []
rows_of (c ∷ cs) = record { name = c.name; meaning = some_meaning } ∷ rows_of cs

absent : (n : Text) (cs : List Class) → (in_classes n cs ≡ None → in_rows n (rows_of cs) ≡ None) × (in_rows n (rows_of cs) ≡ None → in_classes n cs ≡ None)
absent n [] = (λ e. refl, λ e. refl)
absent n (c ∷ cs) =
    elim (bytes_eq c.name n)
    as (λ t.
    (cond t (Some c.members) (in_classes n cs) ≡ None → cond t (Some some_meaning) (in_rows n (rows_of cs)) ≡ None)
    × (cond t (Some some_meaning) (in_rows n (rows_of cs)) ≡ None → cond t (Some c.members) (in_classes n cs) ≡ None)) [
      | true ↦ (λ e. absurd (never (cc)), λ e. absurd (never (cc)))
      | false ↦ absent n cs
    ]

to_rows : (cs : List Class) → DistinctClasses cs → Distinct (rows_of cs)
to_rows [] h = tt
to_rows (c ∷ cs) h = ((absent c.name cs).0 h.0, to_rows cs h.1)

from_rows : (cs : List Class) → Distinct (rows_of cs) → DistinctClasses cs
from_rows [] h = tt
from_rows (c ∷ cs) h = ((absent c.name cs).1 h.0, from_rows cs h.1)

rows_with : (n : Text) (m : List Bool) (cs : List Class) → with_row n some_meaning (rows_of cs) ≡ rows_of (with_class n m cs)
rows_with n m [] = refl
rows_with n m (c ∷ cs) =
    elim (bytes_eq c.name n)
    as (λ t.
    cond t (record { name = n; meaning = some_meaning } ∷ rows_of cs) (record { name = c.name; meaning = some_meaning } ∷ with_row n some_meaning (rows_of cs))
    ≡ rows_of (cond t (record { name = n; members = m } ∷ cs) (c ∷ with_class n m cs))) [
      | true ↦ refl
      | false ↦ ap (λ (rs : List Row). record { name = c.name; meaning = some_meaning } ∷ rs) (rows_with n m cs)
    ]

rows_without : (n : Text) (cs : List Class) → without_row n (rows_of cs) ≡ rows_of (without_class n cs)
rows_without n [] = refl
rows_without n (c ∷ cs) =
    elim (bytes_eq c.name n)
    as (λ t. cond t (rows_of cs) (record { name = c.name; meaning = some_meaning } ∷ without_row n (rows_of cs)) ≡ rows_of (cond t cs (c ∷ without_class n cs))) [
      | true ↦ refl
      | false ↦ ap (λ (rs : List Row). record { name = c.name; meaning = some_meaning } ∷ rs) (rows_without n cs)
    ]

with_distinct : (n : Text) (m : List Bool) (cs : List Class) → DistinctClasses cs → DistinctClasses (with_class n m cs)
with_distinct n m cs h = from_rows (with_class n m cs) (subst Distinct (rows_with n m cs) (distinct n some_meaning (rows_of cs) (to_rows cs h)))

without_distinct : (n : Text) (cs : List Class) → DistinctClasses cs → DistinctClasses (without_class n cs)
without_distinct n cs h = from_rows (without_class n cs) (subst Distinct (rows_without n cs) (distinct_without n (rows_of cs) (to_rows cs h)))

-- ALL NAMES

distinct_lasts : (code : Code) → Lasting code NamesDistinct (λ s. Unit {0})
distinct_lasts code =
    record {
      made = λ t. tt;
      passed = λ s k g le. tt;
      lengthened = λ s t g. tt;
      rewritten = λ s t g. tt;
      found = λ d n s h e. tt;
      defines = λ d n s g h. record { of_rows = distinct n _ d.rows h.of_rows; of_classes = h.of_classes };
      copies = λ d n f h. record { of_rows = distinct n _ d.rows h.of_rows; of_classes = h.of_classes };
      changes = λ d n s g h. record { of_rows = distinct n _ d.rows h.of_rows; of_classes = h.of_classes };
      erases = λ d n h. record { of_rows = distinct_without n d.rows h.of_rows; of_classes = h.of_classes };
      classes = λ d n m h. record { of_rows = h.of_rows; of_classes = with_distinct n m d.classes h.of_classes };
      unclasses = λ d n h. record { of_rows = h.of_rows; of_classes = without_distinct n d.classes h.of_classes };
    }

pub calls_distinct : CallsKeepNamesDistinct
calls_distinct code = call_lasts code NamesDistinct (λ s. Unit {0}) (distinct_lasts code)

new_distinct : NamesDistinct new_dictionary
unfolding new_dictionary
new_distinct = record { of_rows = tt; of_classes = tt }

pub always_distinct : NamesAreAlwaysDistinct
always_distinct code l p cs = calls_last code NamesDistinct (λ s. Unit {0}) (distinct_lasts code) p cs (new l) new_distinct
