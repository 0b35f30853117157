-- The reply of an expansion, from what its scan has come to. Assumes nothing.
use Rattle.std.proofs.Common.{◌≡◌, ◌≤◌, ℕ, List, ◌++◌, length, take, Ok, Err, Result, refl, sym, ap, ◌∙◌, arith}
use Rattle.std.proofs.lemmas.List.{length-take, length-take-le, take-append-le}
use Rattle.std.proofs.Math.Seq.{take-append_seam}
use Rattle.refusal.specs.declared.Refusal.{Refusal}
use Rattle.machine.specs.declared.amounts.Amounts.{Amounts}
use Rattle.machine.specs.Texts.{Text, Code}
use Rattle.machine.specs.Chain.{Tally, Came, gave, stopped, walk}
use Rattle.machine.specs.World.{World}
use Rattle.machine.specs.Scan.{State, expansion}
use Rattle.machine.specs.Calls.{came_to, kept_of}
use Rattle.meter.specs.declared.meter.Meter.{Meter}
use Rattle.meter.specs.Metered.{tally}
use Rattle.expansion.specs.Expanding.{Ended, CameTo}
use Rattle.ttm.specs.declared.report.Report.{Report}
use Rattle.ttm.specs.declared.report.Refused.{Refused}
use Rattle.ttm.specs.Answers.{Replied, Concluded}

-- a vector whose items were all given back holds them
pub taken_back : (n : ℕ) (items rest : List ℕ) → n ≡ length items → take n (items ++ rest) ≡ items
taken_back n items rest all = rw all (take-append_seam items rest)

-- what was printed begins the print area, and the called name its own
module _ (w : World) (t : Tally) (print called : List ℕ) (p : ℕ) (short : p ≤ length print) (printed_is : w.printed ≡ take p print) (called_is : w.called ≡ called) where
  printed_long : p ≡ length w.printed
  printed_long = sym (ap length printed_is ∙ length-take-le p print short)

  pub replied : (r : Result ℕ Refusal) (area area' : List ℕ) (c : Came World State) (answer : Result Report Refused) → CameTo r w area t c → Concluded r called area area' p t.needs answer
      → Replied answer area' print (came_to c).after.replied
  replied (Ok n) area area' c answer e (is, same) =
      rw (e.came, is) (record {
        number = refl;
        text_length = e.len_is;
        shown = ap (take n) same ∙ e.left_is;
        printed_length = printed_long ∙ ap (λ (x : World). length x.printed) (sym e.world_is);
        printed = sym printed_is ∙ ap (λ (x : World). x.printed) (sym e.world_is);
        needs = refl;
      })
  replied (Err e) area area' c answer stop (is, shown) =
      rw (stop, is, called_is) (record {
        number = refl;
        text_length = refl;
        shown = shown;
        printed_length = printed_long;
        printed = sym printed_is;
        needs = refl;
      })

  pub remembered : (r : Result ℕ Refusal) (area : List ℕ) (c : Came World State) → CameTo r w area t c → kept_of w t ≡ (came_to c).memory
  remembered (Ok n) area c e = rw (e.came, e.world_is) refl
  remembered (Err e) area c stop = rw stop refl

-- what begins an area begins a longer one
front : (n : ℕ) (area more text : List ℕ) → take n area ≡ text → n ≡ length text → take n (area ++ more) ≡ text
front n area more text is long =
    let within : n ≤ length area = omega (arith, length-take n area, ap length is, long) in
    take-append-le n area more within ∙ is

-- the reply is the same of longer areas
pub widened : (c : Came World State) (answer : Result Report Refused) (scan print x y : List ℕ) → Replied answer scan print (came_to c).after.replied → Replied answer (scan ++ x) (print ++ y) (came_to c).after.replied
widened (gave s t) answer scan print x y r = record {
  number = r.number;
  text_length = r.text_length;
  shown = front _ scan x _ r.shown r.text_length;
  printed_length = r.printed_length;
  printed = front _ print y _ r.printed r.printed_length;
  needs = r.needs;
}
widened (stopped e w t) answer scan print x y r = record {
  number = r.number;
  text_length = r.text_length;
  shown = front _ scan x _ r.shown r.text_length;
  printed_length = r.printed_length;
  printed = front _ print y _ r.printed r.printed_length;
  needs = r.needs;
}
