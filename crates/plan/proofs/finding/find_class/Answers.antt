use Rattle.std.proofs.Common.{◌≡◌, List, Bool, Some, None, Option, ok_or, refl, sym, subst}
use Rattle.std.specs.Option.{option_map}
use Rattle.code.specs.declared.Code.{Ghosts as OfCode}
use Rattle.library.specs.declared.reader.Reader.{Ghosts as OfReader}
use Rattle.refusal.specs.declared.Refusal.TheVariants.{ClassUndefined}
use Rattle.machine.specs.Texts.{Text}
use Rattle.machine.specs.Faults.{no_class}
use Rattle.machine.specs.Dictionary.{in_classes}
use Rattle.machine.specs.Classes.{if_class}
use Rattle.dictionary.specs.Meant.{classes_in}
use Rattle.value.specs.declared.sources.Sources.{Sources}
use Rattle.plan.specs.Plans.{ComesTo}
use Rattle.plan.proofs.Planning.{stopping}
use Rattle.plan.proofs.finding.find_class.Goals as goal

-- what the look-up of a class finds, as an attempt at its members
found_or_not : {C R : Type 0} {code : OfCode C} {reader : OfReader R} (s : Sources C R code reader) {U : Type 0} (shows : U → List Bool) (name : Text) (o : Option U)
    → option_map shows o ≡ in_classes name (classes_in s.dictionary.now s.store.now) → ComesTo s (λ w. if_class (in_classes name w.dictionary.classes) w) shows (ok_or o ClassUndefined)
found_or_not s shows name (Some m) is = record { on = λ w sees go. rw (sees.dictionary, ← is) refl }
found_or_not s shows name None is = stopping s _ no_class (λ w sees go. rw (sees.dictionary, ← is) refl)

pub returns : goal.returns
returns g c =
    subst (ComesTo c.args.sources.now _ _) (sym c.ok_or.ensures.value)
    (found_or_not c.args.sources.now _ _ c.class.result (rw (← c.get-name.ensures) c.class.ensures))
