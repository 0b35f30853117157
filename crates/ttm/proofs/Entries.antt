-- What the questions at the entry of an expansion come to. Assumes nothing.
use Rattle.std.proofs.Common.{◌≡◌, ◌≤◌, ℕ, Bool, true, false, not, Some, None, Option, refl, sym, ap, ◌∙◌, arith}
use Rattle.std.specs.Prelude.{is_some}
use Rattle.code.specs.Meaning.{ranked}
use Rattle.refusal.specs.declared.Refusal.{Refusal}
use Rattle.refusal.specs.Numbers.{number_of}
use Rattle.refusal.specs.declared.Refusal.TheVariants.{ForeignSource}
use Rattle.machine.specs.declared.amounts.Limits.{Limits}
use Rattle.machine.specs.Texts.{Text, Code, first_place}
use Rattle.machine.specs.Calls.{Areas, turned_away, expand, good_source}
use Rattle.ttm.specs.Entering.{Admitted, TurnedAway, LetIn}
use Rattle.ttm.proofs.Foreign.{all_or_some}

module _ (code : Code) (l : Limits) (a : ℕ) (s : Text) (areas : Areas) where
  pub away : (r : Refusal) → turned_away l (expand a s areas) ≡ Some r → number_of r ≤ 12 → TurnedAway code l a s areas r
  away r is early = record { answers = λ m. rw is refl; early = early }

  module _ (in' : Admitted l a s areas) (o : Option ℕ) (is : o ≡ first_place (λ b. not (ranked code b)) s) where
    good : good_source code s ≡ not (is_some o)
    good = all_or_some (ranked code) s ∙ ap (λ x. not (is_some x)) (sym is)

    pub foreign : (k : ℕ) → o ≡ Some k → TurnedAway code l a s areas ForeignSource
    foreign k found = record { answers = λ m. rw (in'.granted, good, found) refl; early = omega arith }

    pub let_in : o ≡ None → LetIn code l a s areas
    let_in none = record {
      answers = λ m. rw (in'.granted, good, none) refl;
      store = in'.store;
      scan = in'.scan;
      print = in'.print;
      allowed = in'.allowed;
    }
