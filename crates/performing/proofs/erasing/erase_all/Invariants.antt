use Rattle.std.proofs.Common.{◌≡◌, drop}
use Rattle.machine.specs.Strings.{erase_all}
use Rattle.dictionary.specs.Meant.{dictionary_in}
use Rattle.dictionary.specs.Editing.{Kept}
use Rattle.performing.proofs.erasing.erase_all.Given as goal

abbrev pub invariant-loop-n : goal.invariant-loop-n
invariant-loop-n g l = record {
  meaning : erase_all g.C.Code.meaning (drop l.n l.names) (dictionary_in l.dictionary l.store) ≡ erase_all g.C.Code.meaning l.names (dictionary_in l.fn.dictionary l.fn.store);
  kept : Kept l.fn.dictionary l.dictionary l.store;
}
