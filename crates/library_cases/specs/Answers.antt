-- What a library answers, and what it means after it.
use Rattle.std.specs.Prelude.{ℕ, cond, List, Some, Option}
use Rattle.refusal.specs.declared.Refusal.{Refusal}
use Rattle.refusal.specs.declared.Refusal.TheVariants.{ProgramNameLength}
use Rattle.library.specs.Meaning.{Library, Program, place}
use Rattle.library.specs.Name.{fits_name}
use Rattle.library.specs.Operations as operation
use Rattle.library.specs.Keeping as keeping
use Rattle.library_cases.specs.Commands.{Asked, put, delete, find, show}
use Rattle.library_cases.specs.Showing.{shown_outcome, shown_place, shown_library}

-- the refusal; that of a name of a wrong length comes before all others
abbrev pub refusal_for : List ℕ → Option Refusal → Option Refusal
refusal_for name refusal = cond (fits_name name) refusal (Some ProgramNameLength)

abbrev pub put_refusal : Library → Program → Option Refusal
put_refusal l p = refusal_for p.name (keeping.store_refusal l p)

abbrev pub delete_refusal : Library → List ℕ → Option Refusal
delete_refusal l n = refusal_for n (keeping.delete_refusal l n)

-- a name of a wrong length changes nothing
abbrev pub after_put : Library → Program → Library
after_put l p = cond (fits_name p.name) (operation.after l (operation.store p)) l

abbrev pub after_delete : Library → List ℕ → Library
after_delete l n = cond (fits_name n) (operation.after l (operation.delete n)) l

abbrev pub answered : Library → Asked → List ℕ
answered l (put p) = shown_outcome (put_refusal l p)
answered l (delete n) = shown_outcome (delete_refusal l n)
answered l (find n) = shown_place (place n l.programs)
answered l show = shown_library l

abbrev pub left_by : Library → Asked → Library
left_by l (put p) = after_put l p
left_by l (delete n) = after_delete l n
left_by l (find n) = l
left_by l show = l
