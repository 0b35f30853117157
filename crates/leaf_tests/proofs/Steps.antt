-- A step of the scan that is not a call's.
use Rattle.std.proofs.Common.{◌≡◌, ◌≤◌, Bool, [], Result, ap, ap₂, subst, ◌∙◌}
use Rattle.refusal.specs.declared.Refusal.{Refusal}
use Rattle.machine.specs.declared.rule.Rule.{Rule}
use Rattle.machine.specs.Texts.{Text, Code, not_empty}
use Rattle.machine.specs.World.{World}
use Rattle.machine.specs.Dictionary.{new_dictionary}
use Rattle.machine.specs.Cases.{empty_shelf}
use Rattle.machine.specs.Scan.{State, rule, by_rule, step}
use Rattle.meter.specs.declared.meter.Meter.{Meter}
use Rattle.scan.specs.declared.texts.ScanTexts.{ScanTexts}
use Rattle.scan.specs.declared.roll.Roll.{Roll}
use Rattle.scan.specs.Texts.{right_of}
use Rattle.scan.specs.Standing.{state_in}
use Rattle.scan.specs.Meeting.{Goes, Meets}

is_step : (code : Code) (k : Rule) (s : State) → k ≡ rule code (not_empty s.roll) s.right → by_rule code k s ≡ step code s
unfolding step
is_step code k s k_is = ap (λ x. by_rule code x s) k_is

module _ (code : Code) (k : Rule) (t t' : ScanTexts) (q q' : Roll) (m m' : Meter) (r : Result (Unit {0}) Refusal) where
  pub step_goes : (within : Bool) (right : Text) → k ≡ rule code within right → within ≡ not_empty q.entries.items → right ≡ right_of t → Goes (by_rule code k) t t' q q' m m' r → Goes (step code) t t' q q' m m' r
  step_goes within right k_is within_is right_is goes =
      let here = λ (w : World). is_step code k (state_in t q w) (k_is ∙ ap₂ (rule code) within_is right_is) in
      record {
        meets = λ w. subst (Meets m m' r (state_in t' q' w) w) (here w) (goes.meets w);
        same_area = goes.same_area;
        same_limit = goes.same_limit;
      }

  -- the roll holds as many entries as before, and the meter bounds it as before
  pub still_reserved : Goes (by_rule code k) t t' q q' m m' r → m.bounds.roll ≤ q.limit → m'.bounds.roll ≤ q'.limit
  still_reserved goes h =
      let w : World = record { dictionary = new_dictionary; library = empty_shelf; printed = []; called = [] } in
      let limit : q'.limit ≡ q.limit = goes.same_limit in
      rw (limit, (goes.meets w).bounds_stay) h
