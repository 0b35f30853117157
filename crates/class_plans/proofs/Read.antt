-- What is read of a class and a string, of what is found of each.
use Rattle.std.proofs.Common.{◌≡◌, Bool, List, refl, ◌∙◌}
use Rattle.code.specs.declared.Code.{Ghosts as OfCode}
use Rattle.library.specs.declared.reader.Reader.{Ghosts as OfReader}
use Rattle.refusal.specs.declared.Refusal.{Refusal}
use Rattle.machine.specs.World.{of_string, p1, p2}
use Rattle.machine.specs.Dictionary.{Str, in_classes}
use Rattle.machine.specs.Classes.{if_class}
use Rattle.number.specs.Results.{Attempt}
use Rattle.value.specs.declared.sources.Sources.{Sources}
use Rattle.plan.specs.Plans.{GoesOn, Stops}
use Rattle.class_plans.specs.Reading.{reading}

module _ {C R : Type 0} {code : OfCode C} {reader : OfReader R} (s : Sources C R code reader) where
  abbrev pub class_asked : Attempt (List Bool)
  class_asked w = if_class (in_classes (p1 s.parameters.now) w.dictionary.classes) w

  abbrev pub string_asked : Attempt Str
  string_asked = of_string code.meaning (p2 s.parameters.now)

  module _ {V : Type 0} (tell : List Bool → Str → V) (members : List Bool) (found : GoesOn s class_asked members) where
    pub without_string : (e : Refusal) → Stops s string_asked e → Stops s (reading code.meaning s.parameters.now tell) e
    without_string e h = record { why = h.why; says = h.says; stops = λ w sees go. found.on w sees _ ∙ h.stops w sees _ }

    pub both_read : (string : Str) (v : V) → GoesOn s string_asked string → v ≡ tell members string → GoesOn s (reading code.meaning s.parameters.now tell) v
    both_read string v h is = record { on = λ w sees go. found.on w sees _ ∙ h.on w sees _ ∙ rw is refl }
