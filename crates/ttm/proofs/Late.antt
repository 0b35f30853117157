-- No chain stops with one of the first twelve refusals. Assumes nothing.
use Rattle.std.proofs.Common.{◌≡◌, ◌≤◌, ℕ, suc, List, Bool, true, false, cond, Ok, Err, Result, subst, arith}
use Rattle.std.specs.Prelude.{⊤, nat_le, nat_lt, IfErr}
use Rattle.refusal.specs.declared.Refusal.{Refusal}
use Rattle.refusal.specs.Numbers.{number_of}
use Rattle.machine.specs.declared.amounts.Amounts.{Amounts}
use Rattle.machine.specs.Texts.{Text}
use Rattle.machine.specs.Faults.{Question, source?, step?, roll?, names?, store?, print?, value?, shortage, Fault, unmatched, call_open, undefined, too_few_parameters, no_integer, signed_integer, too_many_digits, no_class, no_name, not_a_string, program_name_length, locked, program_present, program_absent, library_full, foreign_text, no_quotient, no_mark_number, no_created_number, too_many_classes, refusal_of}
use Rattle.machine.specs.Chain.{Run, give, fault, ask, number, take_number, Tally, Came, gave, stopped, walk, kind, amount, passed, wanting, taken}
use Rattle.machine.specs.World.{World}
use Rattle.machine.specs.Scan.{State}
use Rattle.expansion.specs.Expanding.{CameTo}
use Rattle.ttm.specs.declared.report.Report.{Report}
use Rattle.ttm.specs.declared.report.Refused.{Refused}
use Rattle.ttm.specs.Answers.{Concluded}

abbrev pub IsLate : Refusal → Type 0
IsLate r = 13 ≤ number_of r

late_shortage : (q : Question) → IsLate (shortage q)
late_shortage source? = omega arith
late_shortage step? = omega arith
late_shortage roll? = omega arith
late_shortage names? = omega arith
late_shortage store? = omega arith
late_shortage print? = omega arith
late_shortage value? = omega arith

late_fault : (f : Fault) → IsLate (refusal_of f)
late_fault unmatched = omega arith
late_fault call_open = omega arith
late_fault undefined = omega arith
late_fault too_few_parameters = omega arith
late_fault no_integer = omega arith
late_fault signed_integer = omega arith
late_fault too_many_digits = omega arith
late_fault no_class = omega arith
late_fault no_name = omega arith
late_fault not_a_string = omega arith
late_fault program_name_length = omega arith
late_fault locked = omega arith
late_fault program_present = omega arith
late_fault program_absent = omega arith
late_fault library_full = omega arith
late_fault foreign_text = omega arith
late_fault no_quotient = omega arith
late_fault no_mark_number = omega arith
late_fault no_created_number = omega arith
late_fault too_many_classes = omega arith

abbrev Late : {W A : Type 0} → Came W A → Type 0
Late (gave a t) = ⊤
Late (stopped r w t) = IsLate r

either_late : {W A : Type 0} (b : Bool) (x y : Came W A) → Late x → Late y → Late (cond b x y)
either_late true x y h k = h
either_late false x y h k = k

stops_late : {W A : Type 0} (b : Amounts) (t : Tally) (x : Run W A) → Late (walk b t x)
stops_late b t (give a) = tt
stops_late b t (fault f w) = late_fault f
stops_late b t (ask q n w r) = either_late (nat_le n (amount (kind q) b)) _ _ (stops_late b (passed (kind q) n t) r) (late_shortage q)
stops_late b t (number w g) = either_late (nat_lt t.created 9999) _ _ (stops_late b (wanting t) (g (suc t.created))) (late_fault no_created_number)
stops_late b t (take_number r) = stops_late b (taken t) r

-- so none of an expansion is early
pub answered_late : (b : Amounts) (t : Tally) (x : Run World State) (r : Result ℕ Refusal) (w : World) (area area' : List ℕ) (t' : Tally) (called : Text) (p : ℕ) (needs : Amounts) (answer : Result Report Refused)
    → CameTo r w area t' (walk b t x) → Concluded r called area area' p needs answer → IfErr answer (λ e. IsLate e.refusal)
answered_late b t x (Ok n) w area area' t' called p needs answer e c = rw c.0 tt
answered_late b t x (Err e) w area area' t' called p needs answer stop c = rw c.0 (subst Late stop (stops_late b t x))
