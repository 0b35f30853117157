-- A class is defined, or is one too many.
use Rattle.std.proofs.Common.{◌≡◌, ℕ, ◌<◌, ◌≤◌, Bool, true, false, [], length, refl, arith, nat_le}
use Rattle.std.proofs.lemmas.Bool.Decides.{nat_tests}
use Rattle.code.specs.declared.Code.{Ghosts as OfCode}
use Rattle.library.specs.declared.reader.Reader.{Ghosts as OfReader}
use Rattle.refusal.specs.declared.Refusal.TheVariants.{TooManyClasses}
use Rattle.machine.specs.Faults.{too_many_classes}
use Rattle.machine.specs.World.{World, plans, text, store_only, with_dictionary, p1}
use Rattle.machine.specs.Dictionary.{class_of, with_class, with_classes}
use Rattle.machine.specs.Classes.{define_class}
use Rattle.dictionary.specs.Meant.{classes_in}
use Rattle.value.specs.declared.sources.Sources.{Sources}
use Rattle.plan.specs.Plans.{Sees, Refused}
use Rattle.plan.proofs.Planning.{refusing}

few : (n : ℕ) → n ≤ 16 → nat_le n 16 ≡ true
few n h = grind (arith, nat_tests)

many : (n : ℕ) → 16 < n → nat_le n 16 ≡ false
many n h = grind (arith, nat_tests)

module _ {C R : Type 0} {code : OfCode C} {reader : OfReader R} (s : Sources C R code reader) (test : ℕ → Bool) where
  -- how many classes there would be
  abbrev classes : ℕ
  classes = length (with_class (p1 s.parameters.now) (class_of test) (classes_in s.dictionary.now s.store.now))

  pub too_many : 16 < classes → Refused s (define_class s.parameters.now test) TooManyClasses
  too_many h = refusing s (define_class s.parameters.now test) too_many_classes (λ w sees. rw (sees.dictionary, many classes h) refl)

  pub not_too_many : classes ≤ 16 → (w : World) → Sees s w → define_class s.parameters.now test w ≡ plans (record {
    value = text [];
    after = with_dictionary (with_classes (with_class (p1 s.parameters.now) (class_of test) w.dictionary.classes) w.dictionary) w;
    asks = store_only;
  })
  not_too_many h w sees = rw (sees.dictionary, few classes h) refl
