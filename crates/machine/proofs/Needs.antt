-- Reported needs are exact. Assumes nothing.
use Rattle.std.proofs.Common.{◌≡◌, ℕ, ◌<◌, ◌≤◌, ◌⊎◌, List, sym, refl, ◌∙◌, subst, inl, inr, le_refl, arith}
use Rattle.machine.specs.declared.amounts.Limits.{Limits}
use Rattle.machine.specs.Texts.{Code}
use Rattle.machine.specs.Chain.{Kind, names, roll, store, scan, print, steps, amount, bounds}
use Rattle.machine.specs.Calls.{Call, After, Memory, new, history}
use Rattle.machine.specs.Promises.{limit, AShortageOf, NoShortage, cut_limits, admitted, lower_limit, allowance_at, lower_allowance, Lent, FirstDiffersAt, IsOutOfSteps, GivenAgain, ReportedNeedsAreExact}
use Rattle.machine.proofs.Counted.{same_or_apart, lowered_here, steps_or_limit}
use Rattle.machine.proofs.Stopping.{steps_number}
use Rattle.machine.proofs.Admitted.{kept, Passes, cut, history_kept, cut_kept, kept_pass, none_short}
use Rattle.machine.proofs.Again.{Same, lent_same, need_at, within_at, Differs, again, differs_by}
use Rattle.machine.proofs.Cutting.{need_below, lowered_at, lowered_elsewhere, lowered_asked, granted_less, cut_at, cut_asked, cut_smaller, old_areas}

-- a list of which 10 and 11 refuse no call
module _ (code : Code) (p : Limits) (m : Memory) (cs : List Call) (pass : Passes p cs) (none : NoShortage (history code p m cs)) where
  abbrev h : List After
  h = history code p m cs

  abbrev q : Limits
  q = cut_limits h

  -- every need fits the cut numbers, and is past none
  fits : (i : ℕ) (k : Kind) → need_at i k h ≤ amount k (bounds q (need_at i steps h))
  fits i names = need_below i names h
  fits i roll = need_below i roll h
  fits i store = need_below i store h
  fits i scan = need_below i scan h
  fits i print = need_below i print h
  fits i steps = le_refl _

  not_past : (i : ℕ) (k : Kind) (n : ℕ) → n ≡ need_at i steps h → amount k (bounds q n) < need_at i k h → ⊥
  not_past i k n e lt = omega (arith, rw e at lt, fits i k)

  equal : (ds : List Call) → Lent q (cut cs h) ds → history code q m ds ≡ h
  equal ds l =
      let s = lent_same q (cut cs h) ds l in
      elim (again code p q m cs ds (cut_asked code p m cs ∙ s.ask) pass s.pass none) [
        | inl e ↦ e
        | inr d ↦ absurd (not_past d.place d.short_of _ (s.allow d.place ∙ cut_at code p m cs d.place) d.past)
      ]

  limit_low : (k : Kind) → 0 < limit k q → (ds : List Call) → Lent (lower_limit k q) (cut cs h) ds →
      (i : ℕ) × FirstDiffersAt i (AShortageOf k) h (history code (lower_limit k q) m ds)
  limit_low k z ds l =
      elim (again code p q' m cs ds (cut_asked code p m cs ∙ s.ask) pass s.pass none) [
        | inl e ↦ absurd (omega (arith, lowered_here k q, still_within e))
        | inr d ↦ (d.place, subst (λ (j : Kind). FirstDiffersAt d.place (AShortageOf j) h g) (of_that_kind d) d.first)
      ]
    where
      q' : Limits
      q' = lower_limit k q

      g : List After
      g = history code q' m ds

      s : Same q' (cut cs h) ds
      s = lent_same q' (cut cs h) ds l

      still_within : g ≡ h → limit k q ≤ limit k q'
      still_within e = subst (λ (x : List After). limit k (cut_limits x) ≤ limit k q') e (cut_smaller code q' m ds k)

      of_that_kind : (d : Differs q' ds h g) → d.short_of ≡ k
      of_that_kind d =
          elim (same_or_apart d.short_of k) [
            | inl e ↦ e
            | inr a ↦
                absurd (not_past d.place d.short_of _ (s.allow d.place ∙ cut_at code p m cs d.place) (rw (a.lowering q _) at d.past))
          ]

  allowance_low : (i : ℕ) → 0 < allowance_at i (cut cs h) → (ds : List Call) → Lent q (lower_allowance i (cut cs h)) ds →
      FirstDiffersAt i IsOutOfSteps h (history code q m ds)
  allowance_low i z ds l =
      elim (again code p q m cs ds (cut_asked code p m cs ∙ sym (lowered_asked i (cut cs h)) ∙ s.ask) pass s.pass none) [
        | inl e ↦ absurd (omega (arith, s.allow i, lowered_at i (cut cs h), cut_at code p m cs i, still_within e))
        | inr d ↦ at d (lowered_elsewhere i d.place (cut cs h)) (steps_or_limit d.short_of)
      ]
    where
      g : List After
      g = history code q m ds

      s : Same q (lower_allowance i (cut cs h)) ds
      s = lent_same q (lower_allowance i (cut cs h)) ds l

      still_within : g ≡ h → need_at i steps h ≤ allowance_at i ds
      still_within e = subst (λ (x : List After). need_at i steps x ≤ allowance_at i ds) e (within_at code q m ds i steps)

      at : (d : Differs q ds h g) →
          (d.place ≡ i) ⊎ (allowance_at d.place (lower_allowance i (cut cs h)) ≡ allowance_at d.place (cut cs h)) →
          (d.short_of ≡ steps) ⊎ ((l : Limits) (a b : ℕ) → amount d.short_of (bounds l a) ≡ amount d.short_of (bounds l b)) →
          FirstDiffersAt i IsOutOfSteps h g
      at d (inl e) (inl f) =
          differs_by (λ a x. x.numbered ∙ steps_number x.question (x.of_kind ∙ f)) i h g
          (subst (λ (j : ℕ). FirstDiffersAt j (AShortageOf d.short_of) h g) e d.first)
      at d (inl e) (inr f) = absurd (not_past d.place d.short_of _ refl (rw (f q _ (need_at d.place steps h)) at d.past))
      at d (inr e) f = absurd (not_past d.place d.short_of _ (s.allow d.place ∙ e ∙ cut_at code p m cs d.place) d.past)

pub reported_needs_are_exact : ReportedNeedsAreExact
reported_needs_are_exact code l p g cs n =
    subst (λ (ds : List Call). GivenAgain code l p h ds) (sym (cut_kept code p cs (history code p (new l) cs)))
    (subst (λ (h : List After). GivenAgain code l p h (cut ks h)) e again_kept)
  where
    ks : List Call
    ks = kept p cs

    h : List After
    h = admitted p cs (history code p (new l) cs)

    e : history code p (new l) ks ≡ h
    e = history_kept code p (new l) cs

    again_kept : GivenAgain code l p (history code p (new l) ks) (cut ks (history code p (new l) ks))
    again_kept =
        let pass = kept_pass code p cs in
        let none = subst NoShortage (sym e) (none_short code p cs (history code p (new l) cs) n) in
        let less = cut_smaller code p (new l) ks in
        record {
          no_larger = less;
          granted = granted_less p (cut_limits (history code p (new l) ks)) less g;
          areas_do = old_areas code p (cut_limits (history code p (new l) ks)) less (new l) ks pass;
          all_equal = equal code p (new l) ks pass none;
          limit_lowered = limit_low code p (new l) ks pass none;
          allowance_lowered = allowance_low code p (new l) ks pass none;
        }
