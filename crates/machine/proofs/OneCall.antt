-- What holds of one call. Assumes nothing.
use Rattle.std.proofs.Common.{◌≡◌, ℕ, ◌<◌, ◌≤◌, true, false, cond, ◌⊎◌, Some, None, Option, sym, refl, ap, ◌∙◌, ap₂, subst₂, inl, inr, arith}
use Rattle.refusal.specs.Numbers.{number_of}
use Rattle.refusal.specs.declared.Refusal.{Refusal}
use Rattle.refusal.specs.declared.Refusal.TheVariants.{ForeignSource}
use Rattle.machine.specs.declared.amounts.Amounts.{Amounts}
use Rattle.machine.specs.declared.amounts.Limits.{Limits}
use Rattle.machine.specs.Texts.{Text, Code}
use Rattle.machine.specs.Faults.{Question, shortage}
use Rattle.machine.specs.Chain.{Kind, kind, amount, bounds, Came, gave, stopped, walk}
use Rattle.machine.specs.Dictionary.{Dictionary, look_up}
use Rattle.machine.specs.World.{World}
use Rattle.machine.specs.Scan.{State, expansion}
use Rattle.machine.specs.Calls.{Call, expand, look, Finding, turned_down, looked, Memory, Done, unchanged, came_to, world_of, from_zero, finding_of, allowance_of, turned_away, good_source, carried_out, unless_away, done}
use Rattle.machine.specs.ChainLaws.{tally_of, ReportedNeedsAreWithinBounds}
use Rattle.machine.specs.Promises.{SameButAreas}
use Rattle.machine.proofs.Counted.{nothing_is_least}
use Rattle.machine.proofs.Walking.{Short, SameOrShort, other_bounds, needs_stay_within}

-- what a call asks for, but for its allowance and its areas
pub data Asked : Type 0 where
  expands looks_at : Text → Asked

abbrev pub asked : Call → Asked
asked (expand a s areas) = expands s
asked (look n area) = looks_at n

pub same_asked : (c d : Call) → SameButAreas c d → (allowance_of c ≡ allowance_of d) × (asked c ≡ asked d)
same_asked (expand a s areas) (expand b t areas') e = (e.0, ap expands e.1)
same_asked (expand a s areas) (look n area) e = absurd e
same_asked (look n area) (expand a s areas) e = absurd e
same_asked (look n area) (look n' area') e = (refl, ap looks_at e)

-- what becomes of a call; no bound is seen here but by 10 and 11
pub data Course : Type 0 where
  refused : Refusal → Course
  finds : Finding → Course
  walks : Text → Course

abbrev pub course : Code → Dictionary → Option Refusal → Asked → Course
course code d (Some r) x = refused r
course code d None (expands s) = cond (good_source code s) (walks s) (refused ForeignSource)
course code d None (looks_at n) = finds (finding_of (look_up code d n))

module _ (code : Code) (p : Limits) (m : Memory) where
  abbrev pub walked : ℕ → Text → Came World State
  walked a s = walk (bounds p a) (from_zero m.created) (expansion code s (world_of m))

  abbrev pub does : ℕ → Course → Done
  does a (refused r) = unchanged (turned_down r) m
  does a (finds f) = unchanged (looked f) m
  does a (walks s) = came_to (walked a s)

  pub done_does : (c : Call) → done code p m c ≡ does (allowance_of c) (course code m.dictionary (turned_away p c) (asked c))
  done_does c = go c (turned_away p c)
    where
      go : (c : Call) (o : Option Refusal) → unless_away o m (carried_out code p m c) ≡ does (allowance_of c) (course code m.dictionary o (asked c))
      go (expand a s areas) (Some r) = refl
      go (expand a s areas) None =
          elim (good_source code s)
          as (λ t. cond t (does a (walks s)) (does a (refused ForeignSource)) ≡ does a (cond t (walks s) (refused ForeignSource))) [
            | true ↦ refl
            | false ↦ refl
          ]
      go (look n area) (Some r) = refl
      go (look n area) None = refl

-- an expansion reports the needs of its chain, and where it stopped
needs_told : (x : Came World State) → (came_to x).after.replied.needs ≡ (tally_of x).needs
needs_told (gave s t) = refl
needs_told (stopped r w t) = refl

number_told : (q : Question) (x : Came World State) → Short q x → (came_to x).after.replied.number ≡ number_of (shortage q)
number_told q (gave s t) e = absurd e
number_told q (stopped r w t) e = ap number_of e

-- No call reports a need past its bound.
pub reported_within : ReportedNeedsAreWithinBounds
reported_within code p m c k = rw (done_does code p m c) (go (course code m.dictionary (turned_away p c) (asked c)))
  where
    b : Amounts
    b = bounds p (allowance_of c)

    go : (x : Course) → amount k (does code p m (allowance_of c) x).after.replied.needs ≤ amount k b
    go (refused r) = nothing_is_least k b
    go (finds f) = nothing_is_least k b
    go (walks s) =
        rw (needs_told (walked code p m (allowance_of c) s))
        (needs_stay_within b (from_zero m.created) (expansion code s (world_of m)) k (nothing_is_least k b))

-- x is the same as y, or it met a shortage: a need that y reported is past its bound in b
abbrev pub SameOrShortage : Amounts → Done → Done → Type 0
SameOrShortage b x y =
    (x ≡ y) ⊎ ((q : Question) × (x.after.replied.number ≡ number_of (shortage q)) × (amount (kind q) b < amount (kind q) y.after.replied.needs))

module _ (code : Code) (p q : Limits) (m : Memory) where
  -- if call c of the limits p met a shortage, its bound is the same for call d of the limits q
  abbrev pub SameWhereShort : Call → Call → Type 0
  SameWhereShort c d =
      (s : Question) → (done code p m c).after.replied.number ≡ number_of (shortage s) →
      amount (kind s) (bounds p (allowance_of c)) ≡ amount (kind s) (bounds q (allowance_of d))

  pub same_or_shortage : (c d : Call) → asked c ≡ asked d → turned_away p c ≡ turned_away q d → SameWhereShort c d →
      SameOrShortage (bounds q (allowance_of d)) (done code q m d) (done code p m c)
  same_or_shortage c d e f h =
      subst₂ (SameOrShortage (bounds q b)) (sym other) (sym this)
      (go x (λ s i. h s (ap (λ (y : Done). y.after.replied.number) this ∙ i)))
    where
      a : ℕ
      a = allowance_of c

      b : ℕ
      b = allowance_of d

      x : Course
      x = course code m.dictionary (turned_away p c) (asked c)

      this : done code p m c ≡ does code p m a x
      this = done_does code p m c

      other : done code q m d ≡ does code q m b x
      other = done_does code q m d ∙ ap₂ (λ (o : Option Refusal) (y : Asked). does code q m b (course code m.dictionary o y)) (sym f) (sym e)

      still : (v u : Came World State) → SameOrShort (bounds q b) v u → SameOrShortage (bounds q b) (came_to v) (came_to u)
      still v u (inl g) = inl (ap came_to g)
      still v u (inr g) = inr (g.0, number_told g.0 v g.1, rw (needs_told u) g.2)

      go : (x : Course) →
          ((s : Question) → (does code p m a x).after.replied.number ≡ number_of (shortage s) → amount (kind s) (bounds p a) ≡ amount (kind s) (bounds q b)) →
          SameOrShortage (bounds q b) (does code q m b x) (does code p m a x)
      go (refused r) g = inl refl
      go (finds n) g = inl refl
      go (walks s) g =
          still _ _
          (other_bounds (bounds p a) (bounds q b) (from_zero m.created) (expansion code s (world_of m))
          (λ k i. g k (number_told k (walked code p m a s) i)))

  -- no bound is less
  pub same_if_no_less : (c d : Call) → asked c ≡ asked d → turned_away p c ≡ turned_away q d → SameWhereShort c d →
      ((k : Kind) → amount k (bounds p (allowance_of c)) ≤ amount k (bounds q (allowance_of d))) → done code q m d ≡ done code p m c
  same_if_no_less c d e f h more =
      elim (same_or_shortage c d e f h) [
        | inl g ↦ g
        | inr g ↦ absurd (omega (arith, g.2, reported_within code p m c (kind g.0), more (kind g.0)))
      ]
