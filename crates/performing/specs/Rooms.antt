-- The dictionary of a world, and the room for another one.
use Rattle.std.specs.Prelude.{ℕ, Bool}
use Rattle.machine.specs.Texts.{Text}
use Rattle.machine.specs.Dictionary.{class_of, with_class, with_classes}
use Rattle.machine.specs.Dictionary as machine
use Rattle.dictionary.specs.Meant.{dictionary_in}
use Rattle.dictionary.specs.Editing.{Room}
use Rattle.world.specs.declared.world.World.{World}

module _ {K : Type 0} (w : World K) where
  abbrev pub dictionary_of : machine.Dictionary
  dictionary_of = dictionary_in w.dictionary.now w.store.now

  abbrev pub RoomFor : machine.Dictionary → Type 0
  RoomFor d = Room w.dictionary.now w.store.now d

  -- with a class of that name, of the bytes that pass the test
  abbrev pub with_members : Text → (ℕ → Bool) → machine.Dictionary
  with_members name test = with_classes (with_class name (class_of test) dictionary_of.classes) dictionary_of
