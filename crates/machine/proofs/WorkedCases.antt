-- The worked cases, by one computed test over the table. Assumes nothing.
use Rattle.std.proofs.Common.{◌≡◌, ℕ, Bool, true, ◌&&◌, List, [], ◌∷◌, get_or, codes, refl, ap}
use Rattle.std.specs.Fmt.{digits}
use Rattle.std.specs.List.{AllByRecursion}
use Rattle.std.specs.Str.{bytes_eq}
use Rattle.std.proofs.lemmas.Slice.Eq.{bytes_eq-Decides}
use Rattle.std.proofs.lemmas.Bool.{and_parts}
use Rattle.machine.specs.declared.amounts.Amounts.{Amounts}
use Rattle.machine.specs.Dictionary.{new_dictionary}
use Rattle.machine.specs.Scan.{step, scanning, expansion}
use Rattle.machine.specs.Calls.{Reply}
use Rattle.machine.specs.Cases.{Case, cases, answered, ComesOut, EveryCaseComesOut}
use Rattle.std.specs.List.{list_all}

-- amounts as a list of numbers, and back
abbrev listed : Amounts → List ℕ
listed a = a.names ∷ a.roll ∷ a.store ∷ a.scan ∷ a.print ∷ a.steps ∷ []

abbrev unlisted : List ℕ → Amounts
unlisted ns = record { names = get_or ns 0 0; roll = get_or ns 1 0; store = get_or ns 2 0; scan = get_or ns 3 0; print = get_or ns 4 0; steps = get_or ns 5 0 }

-- the test of a case: number, text and needs are as the table has them
abbrev as_stated : Case → Reply → Bool
as_stated c r = bytes_eq (r.number ∷ []) (c.number ∷ []) && (bytes_eq r.shown (codes c.text) && bytes_eq (listed r.needs) (listed c.needs))

abbrev passes : Case → Bool
passes c = as_stated c (answered c)

all_pass : list_all passes cases ≡ true
unfolding answered step scanning expansion new_dictionary digits
all_pass = refl

-- what a passed test says
pub equal : (xs ys : List ℕ) → bytes_eq xs ys ≡ true → xs ≡ ys
equal xs ys t = (bytes_eq-Decides xs ys).0 t

comes_out : (c : Case) → passes c ≡ true → ComesOut c
comes_out c t =
    let a = and_parts _ _ t in
    let b = and_parts _ _ a.1 in
    record {
      number_is = ap (λ (ns : List ℕ). get_or ns 0 0) (equal ((answered c).number ∷ []) (c.number ∷ []) a.0);
      text_is = equal (answered c).shown (codes c.text) b.0;
      needs_are = ap unlisted (equal (listed (answered c).needs) (listed c.needs) b.1);
    }

each : (cs : List Case) → list_all passes cs ≡ true → AllByRecursion ComesOut cs
each [] t = tt
each (c ∷ cs) t =
    let both = and_parts (passes c) (list_all passes cs) t in
    (comes_out c both.0, each cs both.1)

pub every_case : EveryCaseComesOut
every_case = each cases all_pass
