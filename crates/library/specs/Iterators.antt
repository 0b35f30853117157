-- What iterators have left.
use Rattle.std.specs.Prelude.{List, drop}
use Rattle.library.specs.declared.iterators.Strings.{Strings}
use Rattle.library.specs.declared.iterators.Programs.{Programs}
use Rattle.library.specs.declared.strings.Source.{Ghosts as OfSource}
use Rattle.library.specs.declared.reader.Reader.{Ghosts as OfReader}
use Rattle.library.specs.Meaning.{NamedString, Program}

-- the strings that are left of those that a source hands over
abbrev pub strings_left : {S : Type 0} {source : OfSource S} → Strings S source → List NamedString
strings_left {S} {source} s = drop s.places.start (source.strings s.source.now)

-- the programs that are left of those that a library has
abbrev pub programs_left : {R : Type 0} {reader : OfReader R} → Programs R reader → List Program
programs_left {R} {reader} p = drop p.places.start (reader.meaning p.library.now).programs
