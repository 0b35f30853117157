-- An expansion that did not run out of steps is finished. Assumes nothing.
use Rattle.std.proofs.Common.{◌≡◌, ℕ, ◌≤◌, refl, ap, ◌∙◌, inl, inr, le_trans, le_refl}
use Rattle.std.proofs.lemmas.Bool.{le-leb}
use Rattle.machine.specs.declared.amounts.Limits.{Limits}
use Rattle.machine.specs.Texts.{Text, Code}
use Rattle.machine.specs.Chain.{kind}
use Rattle.machine.specs.Calls.{expand, Areas, Memory, Done, new, turned_away, done, memory_after}
use Rattle.machine.specs.Promises.{IsOutOfSteps, FinishedUnlessOutOfSteps}
use Rattle.machine.proofs.Counted.{steps_or_limit, bounds_no_less}
use Rattle.machine.proofs.OneCall.{same_if_no_less}
use Rattle.machine.proofs.Stopping.{steps_number}

module _ (code : Code) (p : Limits) (m : Memory) (a b : ℕ) (s : Text) (areas : Areas) where
  turned_as : a ≤ b → b ≤ 1000000 → turned_away p (expand a s areas) ≡ turned_away p (expand b s areas)
  turned_as l u = rw (le-leb b 1000000 u, le-leb a 1000000 (le_trans l u))

  same : (IsOutOfSteps (done code p m (expand a s areas)).after → ⊥) → a ≤ b → b ≤ 1000000 →
      done code p m (expand b s areas) ≡ done code p m (expand a s areas)
  same h l u =
      same_if_no_less code p p m (expand a s areas) (expand b s areas) refl (turned_as l u)
      (λ q e.
      elim (steps_or_limit (kind q)) [ inl i ↦ absurd (h (e ∙ steps_number q i)) | inr i ↦ i p a b ])
      (bounds_no_less p p (λ k. le_refl _) a b l)

pub finished_unless_out_of_steps : FinishedUnlessOutOfSteps
finished_unless_out_of_steps code l p g earlier a s areas h b le u =
    ap (λ (x : Done). x.after.replied.shown) (same code p (memory_after code p (new l) earlier) a b s areas h le u)
