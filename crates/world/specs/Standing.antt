-- The world of the machine that stands in the world of a processor.
use Rattle.std.specs.Prelude.{◌≡◌, ℕ, ◌≤◌, take, length, ⊤}
use Rattle.library.specs.declared.reader.Reader.{Ghosts as OfReader}
use Rattle.machine.specs.World as machine
use Rattle.machine.specs.declared.amounts.Amounts.{Amounts}
use Rattle.machine.specs.Dictionary.{bytes_in}
use Rattle.machine.specs.World.{Asks, nothing_more, names_and_store, store_only, print_only}
use Rattle.dictionary.specs.Meant.{dictionary_in}
use Rattle.dictionary.specs.Editing.{Room}
use Rattle.world.specs.declared.world.World.{World}

module _ {K : Type 0} (reader : OfReader K) where
  abbrev pub world_in : World K → machine.World
  world_in w = record {
    dictionary = dictionary_in w.dictionary.now w.store.now;
    library = reader.meaning w.library.now;
    printed = take w.printed w.print.now;
    called = take w.called w.called_name.now;
  }

  -- its memory and its areas suffice for what may be needed within these bounds, which are the language's at most
  pub record Ready (w : World K) (b : Amounts) : Type 0 where
    pub names : b.names ≤ w.dictionary.now.most_rows
    pub store : b.store ≤ length w.store.now
    pub print : b.print ≤ length w.print.now
    pub called : b.scan ≤ length w.called_name.now
    pub scratch : length w.store.now ≤ length w.scratch.now
    pub small_store : b.store ≤ 32768
    pub small_print : b.print ≤ 32768
    pub small_scan : b.scan ≤ 32768

  -- it stands in the same loans, and they are as long as they were
  pub record SameMemory (v w : World K) : Type 0 where
    pub rows : w.dictionary.now.most_rows ≡ v.dictionary.now.most_rows
    pub store : length w.store.now ≡ length v.store.now
    pub print : length w.print.now ≡ length v.print.now
    pub called : length w.called_name.now ≡ length v.called_name.now
    pub scratch : length w.scratch.now ≡ length v.scratch.now
    pub dictionary_loan : w.dictionary.ghost_name ≡ v.dictionary.ghost_name
    pub store_loan : w.store.ghost_name ≡ v.store.ghost_name
    pub library_loan : w.library.ghost_name ≡ v.library.ghost_name
    pub print_loan : w.print.ghost_name ≡ v.print.ghost_name
    pub called_loan : w.called_name.ghost_name ≡ v.called_name.ghost_name
    pub scratch_loan : w.scratch.ghost_name ≡ v.scratch.ghost_name

-- there is room for a world that is to be, as far as was asked
module _ {K : Type 0} where
  abbrev pub HasRoomFor : World K → Asks → machine.World → Type 0
  HasRoomFor w nothing_more v = ⊤
  HasRoomFor w names_and_store v = Room w.dictionary.now w.store.now v.dictionary
  HasRoomFor w store_only v = bytes_in v.dictionary ≤ length w.store.now
  HasRoomFor w print_only v = length v.printed ≤ length w.print.now
