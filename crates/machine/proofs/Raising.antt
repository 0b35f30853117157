-- Raising limits and allowances changes nothing before the first shortage. Assumes nothing.
use Rattle.std.proofs.Common.{◌≡◌, ℕ, zero, suc, List, [], ◌∷◌, take, sym, refl, ap, ◌∙◌, ap₂, arith}
use Rattle.machine.specs.declared.amounts.Limits.{Limits}
use Rattle.machine.specs.Texts.{Code}
use Rattle.machine.specs.Calls.{Call, expand, look, After, Memory, Done, new, done, history}
use Rattle.machine.specs.Promises.{NoLimitSmaller, AShortage, NoShortage, SameCall, SameList, RaisingLimitsChangesNothingBeforeTheFirstShortage}
use Rattle.machine.proofs.Counted.{bounds_no_less}
use Rattle.machine.proofs.OneCall.{expands, looks_at, same_if_no_less}

module _ (code : Code) (p q : Limits) (more : NoLimitSmaller p q) where
  -- one call, and a list
  same : (m : Memory) (c d : Call) → SameCall p q c d → (AShortage (done code p m c).after → ⊥) → done code q m d ≡ done code p m c
  same m (expand a s areas) (expand b t areas') l h =
      same_if_no_less code p q m (expand a s areas) (expand b t areas') (ap expands l.0) l.2 (λ k e. absurd (h (k, e)))
      (bounds_no_less p q more a b l.1)
  same m (expand a s areas) (look n area) l h = absurd l
  same m (look n area) (expand a s areas) l h = absurd l
  same m (look n area) (look n' area') l h =
      same_if_no_less code p q m (look n area) (look n' area') (ap looks_at l.0) l.1 (λ k e. absurd (h (k, e)))
      (bounds_no_less p q more 0 0 (omega arith))

  lists : (m : Memory) (cs ds : List Call) → SameList p q cs ds → (n : ℕ) → NoShortage (take n (history code p m cs)) →
      take n (history code p m cs) ≡ take n (history code q m ds)
  lists m [] [] l n h = refl
  lists m [] (d ∷ ds) l n h = absurd l
  lists m (c ∷ cs) [] l n h = absurd l
  lists m (c ∷ cs) (d ∷ ds) l zero h = refl
  lists m (c ∷ cs) (d ∷ ds) l (suc n) h =
      let e = sym (same m c d l.0 h.0) in
      ap₂ (λ (x : Done) (rest : List After). x.after ∷ rest) e
      (lists (done code p m c).memory cs ds l.1 n h.1 ∙ ap (λ (x : Done). take n (history code q x.memory ds)) e)

pub raising_limits : RaisingLimitsChangesNothingBeforeTheFirstShortage
raising_limits code l p q gp gq more cs ds same n h = lists code p q more (new l) cs ds same n h
