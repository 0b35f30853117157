-- What the parameters of a call name in its sources.
use Rattle.std.specs.Prelude.{Option}
use Rattle.code.specs.declared.Code.{Ghosts as OfCode}
use Rattle.library.specs.declared.reader.Reader.{Ghosts as OfReader}
use Rattle.library.specs.Meaning.{Program}
use Rattle.machine.specs.Texts.{Text}
use Rattle.machine.specs.Dictionary.{Meaning, look_up}
use Rattle.machine.specs.Libraries.{program_to_store}
use Rattle.dictionary.specs.Meant.{dictionary_in}
use Rattle.value.specs.declared.sources.Sources.{Sources}

module _ {C R : Type 0} {code : OfCode C} {reader : OfReader R} (s : Sources C R code reader) where
  -- what a name means
  abbrev pub meant : Text → Option Meaning
  meant n = look_up code.meaning (dictionary_in s.dictionary.now s.store.now) n

  -- the program that STORE makes of them
  abbrev pub program_made : Program
  program_made = program_to_store code.meaning s.parameters.now (dictionary_in s.dictionary.now s.store.now)
