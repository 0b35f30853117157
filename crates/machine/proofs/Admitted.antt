-- Calls that 10 or 11 refuses, left out. Assumes nothing.
use Rattle.std.proofs.Common.{◌≡◌, List, [], ◌∷◌, Some, None, Option, sym, refl, ap, ◌∙◌}
use Rattle.std.specs.List.{AllByRecursion}
use Rattle.refusal.specs.declared.Refusal.{Refusal}
use Rattle.machine.specs.declared.amounts.Limits.{Limits}
use Rattle.machine.specs.Texts.{Code}
use Rattle.machine.specs.Calls.{Call, After, Memory, turned_away, carried_out, unless_away, done, history}
use Rattle.machine.specs.Promises.{NoShortage, if_admitted, admitted, with_allowance, cut_calls}

abbrev pub kept : Limits → List Call → List Call
kept p [] = []
kept p (c ∷ cs) = if_admitted (turned_away p c) c (kept p cs)

-- 10 and 11 refuse none
abbrev pub Passes : Limits → List Call → Type 0
Passes p = AllByRecursion (λ c. turned_away p c ≡ None)

-- each allowance cut to the steps reported
abbrev pub cut : List Call → List After → List Call
cut cs [] = []
cut [] (a ∷ h) = []
cut (c ∷ cs) (a ∷ h) = with_allowance a.replied.needs.steps c ∷ cut cs h

module _ (code : Code) (p : Limits) where
  pub history_kept : (m : Memory) (cs : List Call) → history code p m (kept p cs) ≡ admitted p cs (history code p m cs)
  history_kept m [] = refl
  history_kept m (c ∷ cs) = go (turned_away p c) refl (history_kept m cs) (history_kept (done code p m c).memory cs)
    where
      rest : Memory → List After
      rest n = admitted p cs (history code p n cs)

      go : (o : Option Refusal) → turned_away p c ≡ o →
          history code p m (kept p cs) ≡ rest m → history code p (done code p m c).memory (kept p cs) ≡ rest (done code p m c).memory →
          history code p m (if_admitted o c (kept p cs)) ≡ if_admitted o (done code p m c).after (rest (done code p m c).memory)
      go (Some r) e f g = f ∙ ap (λ (o : Option Refusal). rest (unless_away o m (carried_out code p m c)).memory) (sym e)
      go None e f g = ap (λ (h : List After). (done code p m c).after ∷ h) g

  pub cut_kept : (cs : List Call) (h : List After) → cut_calls p cs h ≡ cut (kept p cs) (admitted p cs h)
  cut_kept [] h = refl
  cut_kept (c ∷ cs) [] = refl
  cut_kept (c ∷ cs) (a ∷ h) = go (turned_away p c) (cut_kept cs h)
    where
      go : (o : Option Refusal) → cut_calls p cs h ≡ cut (kept p cs) (admitted p cs h) →
          if_admitted o (with_allowance a.replied.needs.steps c) (cut_calls p cs h) ≡ cut (if_admitted o c (kept p cs)) (if_admitted o a (admitted p cs h))
      go (Some r) e = e
      go None e = ap (λ (ds : List Call). with_allowance a.replied.needs.steps c ∷ ds) e

  pub kept_pass : (cs : List Call) → Passes p (kept p cs)
  kept_pass [] = tt
  kept_pass (c ∷ cs) = go (turned_away p c) refl (kept_pass cs)
    where
      go : (o : Option Refusal) → turned_away p c ≡ o → Passes p (kept p cs) → Passes p (if_admitted o c (kept p cs))
      go (Some r) e h = h
      go None e h = (e, h)

  pub none_short : (cs : List Call) (h : List After) → NoShortage h → NoShortage (admitted p cs h)
  none_short [] h n = tt
  none_short (c ∷ cs) [] n = tt
  none_short (c ∷ cs) (a ∷ h) n = go (turned_away p c) (none_short cs h n.1)
    where
      go : (o : Option Refusal) → NoShortage (admitted p cs h) → NoShortage (if_admitted o a (admitted p cs h))
      go (Some r) k = k
      go None k = (n.0, k)
