-- A processor whose dictionary is emptied is as new. Assumes nothing.
use Rattle.std.proofs.Common.{◌≡◌, ℕ, zero, suc, false, List, [], ◌∷◌, take, sym, refl, ap, ◌∙◌, ap₂}
use Rattle.machine.specs.declared.amounts.Limits.{Limits}
use Rattle.machine.specs.Texts.{Code}
use Rattle.machine.specs.Chain.{bounds, Came, gave, stopped}
use Rattle.machine.specs.Dictionary.{Dictionary, new_dictionary}
use Rattle.machine.specs.World.{World}
use Rattle.machine.specs.Scan.{State, expansion}
use Rattle.machine.specs.Calls.{Call, After, Memory, Done, new, came_to, world_of, from_zero, allowance_of, turned_away, done, history, memory_after}
use Rattle.machine.specs.ChainLaws.{tally_of}
use Rattle.machine.specs.Promises.{AnEmptiedDictionaryIsNew, EqualCall, EqualList, NoneWanted, AnEmptiedProcessorIsAsNew}
use Rattle.machine.proofs.Walking.{uncounted, other_count}
use Rattle.machine.proofs.OneCall.{asked, same_asked, Course, refused, finds, walks, course, does, walked, done_does}

pub emptied_is_new : AnEmptiedDictionaryIsNew
unfolding new_dictionary
emptied_is_new d e i = record { originals = λ f. e.all_stand f i; rows = e.no_rows i; classes = e.no_classes i }

-- calls that differ only in their areas
module _ (code : Code) (p : Limits) where
  equal_done : (m : Memory) (c d : Call) → EqualCall p c d → done code p m c ≡ done code p m d
  equal_done m c d e =
      let f = same_asked c d e.0 in
      done_does code p m c
      ∙ (λ i. does code p m (f.0 i) (course code m.dictionary (e.1 i) (f.1 i)))
      ∙ sym (done_does code p m d)

  equal_histories : (m : Memory) (cs ds : List Call) → EqualList p cs ds → history code p m cs ≡ history code p m ds
  equal_histories m [] [] l = refl
  equal_histories m [] (d ∷ ds) l = absurd l
  equal_histories m (c ∷ cs) [] l = absurd l
  equal_histories m (c ∷ cs) (d ∷ ds) l =
      let e = equal_done m c d l.0 in
      ap₂ (λ (x : Done) (rest : List After). x.after ∷ rest) e
      (equal_histories (done code p m c).memory cs ds l.1 ∙ ap (λ (x : Done). history code p x.memory ds) e)

-- a memory in which so many numbers were created
abbrev with_count : ℕ → Memory → Memory
with_count n m = record { dictionary = m.dictionary; created = n; library = m.library }

-- without how many numbers were created
abbrev told : Done → Done
told x = record { after = x.after; memory = with_count 0 x.memory }

told_came : (x : Came World State) → came_to (uncounted x) ≡ told (came_to x)
told_came (gave s t) = refl
told_came (stopped r w t) = refl

wanted_told : (x : Came World State) → (tally_of x).wanted ≡ (came_to x).after.wanted
wanted_told (gave s t) = refl
wanted_told (stopped r w t) = refl

-- as long as no value wants a created number, it is all one how many were created before: one call, and a list
module _ (code : Code) (p : Limits) where
  one : (m : Memory) (n : ℕ) (c : Call) → (done code p m c).after.wanted ≡ false →
      told (done code p (with_count n m) c) ≡ told (done code p m c)
  one m n c h =
      ap told (done_does code p (with_count n m) c)
      ∙ go (course code m.dictionary (turned_away p c) (asked c)) (ap (λ (x : Done). x.after.wanted) (sym (done_does code p m c)) ∙ h)
      ∙ sym (ap told (done_does code p m c))
    where
      a : ℕ
      a = allowance_of c

      go : (x : Course) → (does code p m a x).after.wanted ≡ false → told (does code p (with_count n m) a x) ≡ told (does code p m a x)
      go (refused r) h = refl
      go (finds f) h = refl
      go (walks s) h =
          sym (told_came (walked code p (with_count n m) a s))
          ∙ ap came_to
          (other_count (bounds p a) n m.created (from_zero 0) (expansion code s (world_of m)) (wanted_told (walked code p m a s) ∙ h))
          ∙ told_came (walked code p m a s)

  lists : (m : Memory) (n : ℕ) (cs : List Call) (i : ℕ) → NoneWanted (take i (history code p m cs)) →
      take i (history code p (with_count n m) cs) ≡ take i (history code p m cs)
  lists m n [] i h = refl
  lists m n (c ∷ cs) zero h = refl
  lists m n (c ∷ cs) (suc i) h =
      let e = one m n c h.0 in
      let k = (done code p (with_count n m) c).memory.created in
      ap₂ (λ (x : Done) (rest : List After). x.after ∷ rest) e
      (ap (λ (x : Done). take i (history code p (with_count k x.memory) cs)) e ∙ lists (done code p m c).memory k cs i h.1)

pub emptied_is_as_new : AnEmptiedProcessorIsAsNew
emptied_is_as_new code l p g earlier later later' e same n h =
    ap (take n) (equal_histories code p m later later' same)
    ∙ ap (λ (d : Dictionary). take n (history code p (record { dictionary = d; created = m.created; library = m.library }) later'))
    (emptied_is_new m.dictionary e)
    ∙ lists code p (new m.library) m.created later' n h
  where
    m : Memory
    m = memory_after code p (new l) earlier
