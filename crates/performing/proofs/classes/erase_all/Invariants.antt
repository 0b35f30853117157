use Rattle.std.proofs.Common.{◌≡◌, drop}
use Rattle.machine.specs.Dictionary.{with_classes}
use Rattle.machine.specs.Classes.{erase_classes}
use Rattle.dictionary.specs.Meant.{classes_in, dictionary_in}
use Rattle.dictionary.specs.Editing.{Kept}
use Rattle.performing.proofs.classes.erase_all.Given as goal

abbrev pub invariant-loop-n : goal.invariant-loop-n
invariant-loop-n l = record {
  meaning : with_classes (erase_classes (drop l.n l.names) (classes_in l.dictionary l.store)) (dictionary_in l.dictionary l.store) ≡ with_classes (erase_classes l.names (classes_in l.fn.dictionary l.fn.store)) (dictionary_in l.fn.dictionary l.fn.store);
  kept : Kept l.fn.dictionary l.dictionary l.store;
}
