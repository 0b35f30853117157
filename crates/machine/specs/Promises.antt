-- What is promised over lists of calls, for every code, every library and every list, refused calls included. A list starts
-- at a new processor, made with its limits. Assumes nothing.
use Rattle.std.specs.Prelude.{◌≡◌, ℕ, zero, suc, ◌-◌, ◌<◌, ◌≤◌, max, true, false, List, [], ◌∷◌, take, Some, None, Option, ◌≢◌}
use Rattle.std.specs.List.{AllByRecursion}
use Rattle.library.specs.Meaning.{Library}
use Rattle.refusal.specs.Numbers.{number_of}
use Rattle.refusal.specs.declared.Refusal.{Refusal}
use Rattle.machine.specs.declared.amounts.Limits.{Limits}
use Rattle.machine.specs.declared.built_in.BuiltIn.{BuiltIn}
use Rattle.machine.specs.Texts.{Text, Code}
use Rattle.machine.specs.Faults.{Question, shortage}
use Rattle.machine.specs.Chain.{Kind, names, roll, store, scan, print, steps, kind, amount, bounds}
use Rattle.machine.specs.Dictionary.{Dictionary, new_dictionary}
use Rattle.machine.specs.Calls.{make_refusal, Call, expand, look, Areas, After, Memory, new, allowance_of, turned_away, done, history, memory_after}

-- make grants these limits
abbrev pub Granted : Limits → Type 0
Granted l = make_refusal l ≡ None

-- the limit of a kind; steps have an allowance, and no limit
abbrev pub limit : Kind → Limits → ℕ
limit k l = amount k (bounds l 0)

abbrev pub NoLimitSmaller : Limits → Limits → Type 0
NoLimitSmaller p q = (k : Kind) → limit k p ≤ limit k q

-- the answer is a shortage, or one of that kind, by its number
abbrev pub AShortage : After → Type 0
AShortage a = (q : Question) × (a.replied.number ≡ number_of (shortage q))

pub record AShortageOf (k : Kind) (a : After) : Type 0 where
  pub question : Question
  pub of_kind : kind question ≡ k
  pub numbered : a.replied.number ≡ number_of (shortage question)

abbrev pub NoShortage : List After → Type 0
NoShortage = AllByRecursion (λ a. AShortage a → ⊥)

-- RAISING LIMITS

-- the same call of two processors, the second with no smaller allowance: kind, source and name are the same, and 10 and 11
-- refuse the same
abbrev pub SameCall : Limits → Limits → Call → Call → Type 0
SameCall p q (expand a s areas) (expand b t areas') = (s ≡ t) × (a ≤ b) × (turned_away p (expand a s areas) ≡ turned_away q (expand b t areas'))
SameCall p q (expand a s areas) (look n area) = ⊥
SameCall p q (look n area) (expand a s areas) = ⊥
SameCall p q (look n area) (look m area') = (n ≡ m) × (turned_away p (look n area) ≡ turned_away q (look m area'))

abbrev pub SameList : Limits → Limits → List Call → List Call → Type 0
SameList p q [] [] = Unit {0}
SameList p q [] (d ∷ ds) = ⊥
SameList p q (c ∷ cs) [] = ⊥
SameList p q (c ∷ cs) (d ∷ ds) = SameCall p q c d × SameList p q cs ds

-- Two processors are given the same list, the second with no limit and no allowance smaller. As long as the first meets no
-- shortage, all is equal after each call.
abbrev pub RaisingLimitsChangesNothingBeforeTheFirstShortage : Type 0
RaisingLimitsChangesNothingBeforeTheFirstShortage =
    (code : Code) (l : Library) (p q : Limits) → Granted p → Granted q → NoLimitSmaller p q →
    (cs ds : List Call) → SameList p q cs ds →
    (n : ℕ) → NoShortage (take n (history code p (new l) cs)) →
    take n (history code p (new l) cs) ≡ take n (history code q (new l) ds)

-- REPORTED NEEDS

-- the largest need reported, 0 if none was
abbrev pub largest : Kind → List After → ℕ
largest k [] = 0
largest k (a ∷ as') = max (amount k a.replied.needs) (largest k as')

abbrev pub cut_limits : List After → Limits
cut_limits h = record { names = largest names h; roll = largest roll h; store = largest store h; scan = largest scan h; print = largest print h }

-- calls that 10 or 11 refuses are left out
abbrev pub if_admitted : {X : Type 0} → Option Refusal → X → List X → List X
if_admitted (Some r) x xs = xs
if_admitted None x xs = x ∷ xs

abbrev pub admitted : Limits → List Call → List After → List After
admitted p [] h = []
admitted p (c ∷ cs) [] = []
admitted p (c ∷ cs) (a ∷ as') = if_admitted (turned_away p c) a (admitted p cs as')

abbrev pub with_allowance : ℕ → Call → Call
with_allowance n (expand a s areas) = expand n s areas
with_allowance n (look name area) = look name area

-- the calls that were admitted, each allowance cut to the steps that were reported
abbrev pub cut_calls : Limits → List Call → List After → List Call
cut_calls p [] h = []
cut_calls p (c ∷ cs) [] = []
cut_calls p (c ∷ cs) (a ∷ as') = if_admitted (turned_away p c) (with_allowance a.replied.needs.steps c) (cut_calls p cs as')

-- one limit, or one allowance, lowered by one
abbrev pub lower_limit : Kind → Limits → Limits
lower_limit names l = record { names = l.names - 1; roll = l.roll; store = l.store; scan = l.scan; print = l.print }
lower_limit roll l = record { names = l.names; roll = l.roll - 1; store = l.store; scan = l.scan; print = l.print }
lower_limit store l = record { names = l.names; roll = l.roll; store = l.store - 1; scan = l.scan; print = l.print }
lower_limit scan l = record { names = l.names; roll = l.roll; store = l.store; scan = l.scan - 1; print = l.print }
lower_limit print l = record { names = l.names; roll = l.roll; store = l.store; scan = l.scan; print = l.print - 1 }
lower_limit steps l = l

-- call i, counted from 0
abbrev pub allowance_at : ℕ → List Call → ℕ
allowance_at i [] = 0
allowance_at zero (c ∷ cs) = allowance_of c
allowance_at (suc i) (c ∷ cs) = allowance_at i cs

abbrev pub lower_allowance : ℕ → List Call → List Call
lower_allowance i [] = []
lower_allowance zero (c ∷ cs) = with_allowance (allowance_of c - 1) c ∷ cs
lower_allowance (suc i) (c ∷ cs) = c ∷ lower_allowance i cs

-- the same call with the same allowance; its areas may differ
abbrev pub SameButAreas : Call → Call → Type 0
SameButAreas (expand a s areas) (expand b t areas') = (a ≡ b) × (s ≡ t)
SameButAreas (expand a s areas) (look n area) = ⊥
SameButAreas (look n area) (expand a s areas) = ⊥
SameButAreas (look n area) (look m area') = n ≡ m

-- ds are the calls cs, lent areas such that 10 and 11 refuse none
abbrev pub Lent : Limits → List Call → List Call → Type 0
Lent q [] [] = Unit {0}
Lent q [] (d ∷ ds) = ⊥
Lent q (c ∷ cs) [] = ⊥
Lent q (c ∷ cs) (d ∷ ds) = (SameButAreas c d × (turned_away q d ≡ None)) × Lent q cs ds

-- the answers to call i differ, all is equal before it, and P holds of the second
abbrev pub FirstDiffersAt : ℕ → (After → Type 0) → List After → List After → Type 0
FirstDiffersAt i P [] bs = ⊥
FirstDiffersAt i P (a ∷ as') [] = ⊥
FirstDiffersAt zero P (a ∷ as') (b ∷ bs) = (a.replied ≢ b.replied) × P b
FirstDiffersAt (suc i) P (a ∷ as') (b ∷ bs) = (a ≡ b) × FirstDiffersAt i P as' bs

abbrev pub IsOutOfSteps : After → Type 0
IsOutOfSteps a = a.replied.number ≡ 14

-- h is what the calls cs came to; they are given again with the limits cut to the largest needs
pub record GivenAgain (code : Code) (l : Library) (p : Limits) (h : List After) (cs : List Call) : Type 0 where
  -- make grants the cut limits, and the areas of the first time do
  pub no_larger : NoLimitSmaller (cut_limits h) p
  pub granted : Granted (cut_limits h)
  pub areas_do : Lent (cut_limits h) cs cs
  -- all is equal
  pub all_equal : (ds : List Call) → Lent (cut_limits h) cs ds → history code (cut_limits h) (new l) ds ≡ h
  -- with one limit less, the first to differ is a shortage of its kind
  pub limit_lowered : (k : Kind) → 0 < limit k (cut_limits h) → (ds : List Call) → Lent (lower_limit k (cut_limits h)) cs ds →
      (i : ℕ) × FirstDiffersAt i (AShortageOf k) h (history code (lower_limit k (cut_limits h)) (new l) ds)
  -- with the allowance of call i one less, call i is the first to differ, and it runs out of steps
  pub allowance_lowered : (i : ℕ) → 0 < allowance_at i cs → (ds : List Call) → Lent (cut_limits h) (lower_allowance i cs) ds →
      FirstDiffersAt i IsOutOfSteps h (history code (cut_limits h) (new l) ds)

-- A list meets no shortage. The calls of it that 10 and 11 did not refuse are given again, with limits cut to the largest
-- needs reported and allowances cut to the steps reported: all is equal, and each of these numbers is needed.
abbrev pub ReportedNeedsAreExact : Type 0
ReportedNeedsAreExact =
    (code : Code) (l : Library) (p : Limits) → Granted p →
    (cs : List Call) → NoShortage (history code p (new l) cs) →
    GivenAgain code l p (admitted p cs (history code p (new l) cs)) (cut_calls p cs (history code p (new l) cs))

-- AN EMPTIED PROCESSOR

-- no string, copied built-in or class stands, and all built-ins stand as made
pub record Emptied (d : Dictionary) : Type 0 where
  pub no_rows : d.rows ≡ []
  pub no_classes : d.classes ≡ []
  pub all_stand : (f : BuiltIn) → d.originals f ≡ true

abbrev pub AnEmptiedDictionaryIsNew : Type 0
AnEmptiedDictionaryIsNew = (d : Dictionary) → Emptied d → d ≡ new_dictionary

-- the same lists for equal limits and with equal allowances; the areas may differ
abbrev pub EqualCall : Limits → Call → Call → Type 0
EqualCall p c d = SameButAreas c d × (turned_away p c ≡ turned_away p d)

abbrev pub EqualList : Limits → List Call → List Call → Type 0
EqualList p [] [] = Unit {0}
EqualList p [] (d ∷ ds) = ⊥
EqualList p (c ∷ cs) [] = ⊥
EqualList p (c ∷ cs) (d ∷ ds) = EqualCall p c d × EqualList p cs ds

abbrev pub NoneWanted : List After → Type 0
NoneWanted = AllByRecursion (λ a. a.wanted ≡ false)

-- Earlier calls have left the dictionary emptied. Later calls are then equal to a new processor's that has the library as it
-- is by then, as long as no value wants a created number.
abbrev pub AnEmptiedProcessorIsAsNew : Type 0
AnEmptiedProcessorIsAsNew =
    (code : Code) (l : Library) (p : Limits) → Granted p → (earlier later later' : List Call) →
    let m = memory_after code p (new l) earlier in
    Emptied m.dictionary → EqualList p later later' →
    (n : ℕ) → NoneWanted (take n (history code p (new m.library) later')) →
    take n (history code p m later) ≡ take n (history code p (new m.library) later')

-- FINISHED

-- An expansion is finished when every larger allowance, up to 1,000,000, gives the same text.
abbrev pub Finished : Code → Limits → Memory → ℕ → Text → Areas → Type 0
Finished code p m a s areas =
    (b : ℕ) → a ≤ b → b ≤ 1000000 →
    (done code p m (expand b s areas)).after.replied.shown ≡ (done code p m (expand a s areas)).after.replied.shown

-- Every expansion that did not run out of steps is finished.
abbrev pub FinishedUnlessOutOfSteps : Type 0
FinishedUnlessOutOfSteps =
    (code : Code) (l : Library) (p : Limits) → Granted p → (earlier : List Call) →
    let m = memory_after code p (new l) earlier in
    (a : ℕ) (s : Text) (areas : Areas) → (IsOutOfSteps (done code p m (expand a s areas)).after → ⊥) → Finished code p m a s areas
