use Rattle.std.proofs.Common.{◌≡◌, None, take}
use Rattle.machine.specs.Texts.{first_place}
use Rattle.dictionary.specs.Meant.{rows_in}
use Rattle.dictionary.specs.Finding.{row_named}
use Rattle.dictionary.proofs.Located.{before}
use Rattle.dictionary.proofs.dictionary.Dictionary.find.Given as goal

abbrev pub invariant-loop-index : goal.invariant-loop-index
invariant-loop-index l = record {
  start : l.start ≡ before l.self l.index;
  none : first_place (row_named l.name) (take l.index (rows_in l.self l.store)) ≡ None;
}
