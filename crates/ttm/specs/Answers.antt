-- The answers of the public calls, as replies of the machine. Assumes nothing.
use Rattle.std.specs.Prelude.{◌≡◌, ℕ, List, [], length, take, Ok, Err, Result}
use Rattle.refusal.specs.declared.Refusal.{Refusal}
use Rattle.refusal.specs.Numbers.{number_of}
use Rattle.machine.specs.Calls.{Reply, Answer, looked, turned_down, a_string, shown_name}
use Rattle.machine.specs.Texts.{Text}
use Rattle.machine.specs.declared.amounts.Amounts.{Amounts}
use Rattle.machine.specs.Calls as machine
use Rattle.ttm.specs.declared.report.Report.{Report}
use Rattle.ttm.specs.declared.report.Refused.{Refused}
use Rattle.ttm.specs.declared.finding.Finding.{Finding}
use Rattle.ttm.specs.declared.finding.Finding.TheVariants.{Absent, BuiltIn, String}

-- what was found
abbrev pub shown : Finding → machine.Finding
shown Absent = machine.absent
shown BuiltIn = machine.a_built_in
shown (String bytes) = a_string bytes.now

-- the answer of a look
abbrev pub look_answer : Result Finding Refusal → Answer
look_answer (Ok f) = looked (shown f)
look_answer (Err r) = turned_down r

-- the number of the answer of an expansion, and its report
abbrev pub number_in : Result Report Refused → ℕ
number_in (Ok r) = 0
number_in (Err e) = number_of e.refusal

abbrev pub report_in : Result Report Refused → Report
report_in (Ok r) = r
report_in (Err e) = e.report

-- the answer of an expansion is this reply: its text begins the scan area, and what it printed begins the print area
pub record Replied (answer : Result Report Refused) (scan print : List ℕ) (reply : Reply) : Type 0 where
  pub number : number_in answer ≡ reply.number
  pub text_length : (report_in answer).text ≡ reply.text_length
  pub shown : take (report_in answer).text scan ≡ reply.shown
  pub printed_length : (report_in answer).printed ≡ reply.printed_length
  pub printed : take (report_in answer).printed print ≡ reply.printed
  pub needs : (report_in answer).needs ≡ reply.needs

-- an expansion that came to its end leaves its text where it begins the area; one that was refused shows the called name
abbrev pub Concluded : Result ℕ Refusal → Text → List ℕ → List ℕ → ℕ → Amounts → Result Report Refused → Type 0
Concluded (Ok n) called scan scan' printed needs answer = (answer ≡ Ok (record { text = n; printed = printed; needs = needs })) × (scan' ≡ scan)
Concluded (Err e) called scan scan' printed needs answer =
    (answer ≡ Err (record { refusal = e; report = record { text = length (shown_name e called); printed = printed; needs = needs } }))
    × (take (length (shown_name e called)) scan' ≡ shown_name e called)
