-- A step of the scan by its rule, and the scan from one step to the next. Assumes nothing.
use Rattle.std.proofs.Common.{◌≡◌, ℕ, suc, ◌+◌, ◌-◌, ◌≤◌, min, Bool, true, false, eqb, [], ◌∷◌, length, drop, Ok, Err, Result, refl, sym, ap, subst, ◌∙◌, arith}
use Rattle.refusal.specs.declared.Refusal.{Refusal}
use Rattle.machine.specs.declared.rule.Rule.{Rule}
use Rattle.machine.specs.declared.rule.Rule.TheVariants.{Close}
use Rattle.std.proofs.lemmas.Bool.{both_ways, eqb-true}
use Rattle.machine.specs.Texts.{Text, Code, not_empty}
use Rattle.machine.specs.World.{World}
use Rattle.machine.specs.Chain.{walk}
use Rattle.machine.specs.Scan.{State, rule, dropping, by_rule, make_call, step, ending, scanning}
use Rattle.meter.specs.declared.meter.Meter.{Meter}
use Rattle.meter.specs.declared.question.Question.TheVariants.{Step}
use Rattle.meter.specs.Metered.{tally, Passed, Short}
use Rattle.scan.specs.declared.texts.ScanTexts.{ScanTexts}
use Rattle.scan.specs.declared.roll.Roll.{Roll}
use Rattle.scan.specs.Texts.{left_of, right_of, SameArea, Become}
use Rattle.scan.specs.Standing.{state_in}
use Rattle.scan.specs.Meeting.{Meets, Goes}
use Rattle.scan.specs.Making.{GoesIn}
use Rattle.scan.specs.Running.{Passes}
use Rattle.scan.proofs.Meetings.{scan_on, scan_stops, scan_short, scan_ends}
use Rattle.machine.specs.declared.amounts.Amounts.{Amounts}

pub same_area_on : (t t' t'' : ScanTexts) → SameArea t t' → SameArea t' t'' → SameArea t t''
same_area_on t t' t'' h k = record { same_loan = k.same_loan ∙ h.same_loan; same_size = k.same_size ∙ h.same_size }

module _ (code : Code) (w w' : World) (t t' : ScanTexts) (q q' : Roll) (m m' : Meter) (r : Result (Unit {0}) Refusal) where
  abbrev state : State
  state = state_in t q w

  by_its_rule : (u : Rule) → u ≡ rule code (not_empty q.entries.items) (right_of t) → by_rule code u state ≡ step code state
  unfolding step
  by_its_rule u e = ap (λ v. by_rule code v state) e

  pub stepped_by_rule : (u : Rule) → u ≡ rule code (not_empty q.entries.items) (right_of t) → Goes (by_rule code u) t t' q q' m m' r → GoesIn (step code) w w t t' q q' m m' r
  stepped_by_rule u e h = record {
    meets = subst (Meets m m' r (state_in t' q' w) w) (by_its_rule u e) (h.meets w);
    same_area = h.same_area;
    same_limit = h.same_limit;
  }

  -- `>` was dropped, and then the call was made
  pub stepped_by_call : (t₁ : ScanTexts) → Close ≡ rule code (not_empty q.entries.items) (right_of t) → Become t t₁ (left_of t) (drop 1 (right_of t)) →
      GoesIn (make_call code) w w' t₁ t' q q' m m' r → GoesIn (step code) w w' t t' q q' m m' r
  stepped_by_call t₁ e d h =
      let dropped : state_in t₁ q w ≡ dropping 1 state = λ i. record { left = d.left_is i; right = d.right_is i; roll = q.entries.items; world = w } in
      record {
        meets = subst (Meets m m' r (state_in t' q' w') w') (ap (make_call code) dropped ∙ by_its_rule Close e) h.meets;
        same_area = same_area_on t t₁ t' d.same_area h.same_area;
        same_limit = h.same_limit;
      }

pub none_left : (t : Text) → (b : Bool) → b ≡ eqb (length t) 0 → b ≡ true → not_empty t ≡ false
none_left [] b e f = refl
none_left (x ∷ t) b e f = absurd (omega (arith, eqb-true (length (x ∷ t)) 0 (sym e ∙ f)))

pub some_left : (t : Text) → (b : Bool) → b ≡ eqb (length t) 0 → b ≡ false → not_empty t ≡ true
some_left [] b e f = absurd (both_ways b f e)
some_left (x ∷ t) b e f = refl

-- The scan from the state of texts t₀ and the rest, behind n steps, is the scan from its beginning.
pub record Under (code : Code) (w₀ w : World) (t₀ t : ScanTexts) (q₀ q : Roll) (m₀ m : Meter) (n : ℕ) : Type 0 where
  pub same_scan : walk m.bounds (tally m) (scanning code (1000000 - n) n (state_in t q w)) ≡ walk m₀.bounds (tally m₀) (scanning code 1000000 0 (state_in t₀ q₀ w₀))
  pub bounds_stay : m.bounds ≡ m₀.bounds
  pub same_area : SameArea t₀ t
  pub same_limit : q.limit ≡ q₀.limit
  pub allowed : n ≤ m.bounds.steps

module _ (code : Code) (w₀ w : World) (t₀ t : ScanTexts) (q₀ q : Roll) (m₀ m : Meter) (n : ℕ) (u : Under code w₀ w t₀ t q₀ q m₀ m n) where
  abbrev Whole : World → ScanTexts → Roll → Meter → Result (Unit {0}) Refusal → Type 0
  Whole w' t' q' m' r = GoesIn (scanning code 1000000 0) w₀ w' t₀ t' q₀ q' m₀ m' r

  -- what the rest of the scan meets, the whole meets
  of_whole : (m' : Meter) (r : Result (Unit {0}) Refusal) (after : State) (left : World) → Meets m m' r after left (scanning code (1000000 - n) n (state_in t q w)) →
      Meets m₀ m' r after left (scanning code 1000000 0 (state_in t₀ q₀ w₀))
  of_whole m' r after left h = record { bounds_stay = h.bounds_stay ∙ u.bounds_stay; as_defined = h.as_defined ∙ u.same_scan }

  pub at_end : (r : Result (Unit {0}) Refusal) → not_empty (right_of t) ≡ false → Goes ending t t q q m m r → Whole w t q m r
  at_end r none h = record {
    meets = of_whole m r (state_in t q w) w (scan_ends code n (state_in t q w) (state_in t q w) m m (1000000 - n) r w none (h.meets w));
    same_area = u.same_area;
    same_limit = u.same_limit;
  }

  pub at_short : (m' : Meter) (e : Refusal) → not_empty (right_of t) ≡ true → Short Step (n + 1) m m' e → Whole w t q m' (Err e)
  at_short m' e some h = record {
    meets = of_whole m' (Err e) (state_in t q w) w (scan_short code n (state_in t q w) (state_in t q w) m m' (1000000 - n) e some h);
    same_area = u.same_area;
    same_limit = u.same_limit;
  }

  module _ (allowed : m₀.bounds.steps ≤ 1000000) where
    within : m.bounds.steps ≤ 1000000
    within = subst (λ (b : Amounts). b.steps ≤ 1000000) (sym u.bounds_stay) allowed

    pub behind_plain : (t' : ScanTexts) (m' : Meter) (n' : ℕ) → Passes code t t' q m m' n n' → Under code w₀ w t₀ t' q₀ q m₀ m' n'
    behind_plain t' m' n' h =
        let k = min h.run (m.bounds.steps - n) in
        let less : n' ≤ m.bounds.steps = omega (arith, h.as_far, u.allowed) in
        let all : k + (1000000 - n') ≡ 1000000 - n = omega (arith, h.as_far, less, within) in
        record {
          same_scan = sym (h.same_scan (1000000 - n') w) ∙ ap (λ x. walk m.bounds (tally m) (scanning code x n (state_in t q w))) all ∙ u.same_scan;
          bounds_stay = h.bounds_stay ∙ u.bounds_stay;
          same_area = same_area_on t₀ t t' u.same_area h.same_area;
          same_limit = u.same_limit;
          allowed = subst (λ (b : Amounts). n' ≤ b.steps) (sym h.bounds_stay) less;
        }

    module _ (some : not_empty (right_of t) ≡ true) (m' : Meter) (p : Passed Step (n + 1) m m') (w' : World) (t' : ScanTexts) (q' : Roll) (m'' : Meter) where
      one_less : 1000000 - n ≡ suc (1000000 - (n + 1))
      one_less = omega (arith, p.fits, within)

      pub at_stop : (e : Refusal) → GoesIn (step code) w w' t t' q q' m' m'' (Err e) → Whole w' t' q' m'' (Err e)
      at_stop e h = record {
        meets =
            of_whole m'' (Err e) (state_in t' q' w') w'
            (subst (λ k. Meets m m'' (Err e) (state_in t' q' w') w' (scanning code k n (state_in t q w))) (sym one_less)
            (scan_stops code n (state_in t q w) (state_in t' q' w') m m' (1000000 - (n + 1)) m'' e (state_in t' q' w') w' some p h.meets));
        same_area = same_area_on t₀ t t' u.same_area h.same_area;
        same_limit = h.same_limit ∙ u.same_limit;
      }

      pub at_next : (o : Unit {0}) → GoesIn (step code) w w' t t' q q' m' m'' (Ok o) → Under code w₀ w' t₀ t' q₀ q' m₀ m'' (n + 1)
      at_next o h = record {
        same_scan =
            sym (scan_on code n (state_in t q w) (state_in t q w) m m' (1000000 - (n + 1)) m'' o (state_in t' q' w') w' some p h.meets)
            ∙ ap (λ k. walk m.bounds (tally m) (scanning code k n (state_in t q w))) (sym one_less) ∙ u.same_scan;
        bounds_stay = h.meets.bounds_stay ∙ p.bounds_stay ∙ u.bounds_stay;
        same_area = same_area_on t₀ t t' u.same_area h.same_area;
        same_limit = h.same_limit ∙ u.same_limit;
        allowed = subst (λ (b : Amounts). n + 1 ≤ b.steps) (sym (h.meets.bounds_stay ∙ p.bounds_stay)) p.fits;
      }
