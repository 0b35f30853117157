-- The memory of a world, from one step to the next. Assumes nothing.
use Rattle.std.proofs.Common.{◌∙◌, arith}
use Rattle.library.specs.declared.reader.Reader.{Ghosts as OfReader}
use Rattle.machine.specs.declared.amounts.Amounts.{Amounts}
use Rattle.world.specs.declared.world.World.{World}
use Rattle.world.specs.Standing.{Ready, SameMemory}

module _ {K : Type 0} (reader : OfReader K) where
  pub same_memory_on : (u v w : World K) → SameMemory reader u v → SameMemory reader v w → SameMemory reader u w
  same_memory_on u v w a b = record {
    rows = b.rows ∙ a.rows;
    store = b.store ∙ a.store;
    print = b.print ∙ a.print;
    called = b.called ∙ a.called;
    scratch = b.scratch ∙ a.scratch;
    dictionary_loan = b.dictionary_loan ∙ a.dictionary_loan;
    store_loan = b.store_loan ∙ a.store_loan;
    library_loan = b.library_loan ∙ a.library_loan;
    print_loan = b.print_loan ∙ a.print_loan;
    called_loan = b.called_loan ∙ a.called_loan;
    scratch_loan = b.scratch_loan ∙ a.scratch_loan;
  }

  -- what sufficed suffices
  pub still_ready : (v w : World K) (b : Amounts) → SameMemory reader v w → Ready reader v b → Ready reader w b
  still_ready v w b same r = record {
    names = omega (arith, same.rows, r.names);
    store = omega (arith, same.store, r.store);
    print = omega (arith, same.print, r.print);
    called = omega (arith, same.called, r.called);
    scratch = omega (arith, same.store, same.scratch, r.scratch);
    small_store = r.small_store;
    small_print = r.small_print;
    small_scan = r.small_scan;
  }
