use Rattle.std.proofs.Common.{◌≡◌, ◌+◌, None, take}
use Rattle.machine.specs.Texts.{first_place}
use Rattle.dictionary.specs.Meant.{classes_in}
use Rattle.dictionary.specs.Finding.{class_named}
use Rattle.dictionary.proofs.ClassRows.{names_before}
use Rattle.dictionary.proofs.dictionary.Dictionary.find_class.Given as goal

abbrev pub invariant-loop-index : goal.invariant-loop-index
invariant-loop-index l = record {
  start : l.start ≡ l.self.row_bytes + names_before l.self l.index;
  none : first_place (class_named l.name) (take l.index (classes_in l.self l.store)) ≡ None;
}
