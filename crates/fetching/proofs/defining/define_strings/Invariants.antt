use Rattle.library.specs.Iterators.{strings_left}
use Rattle.fetching.proofs.Strings.{Under}
use Rattle.fetching.proofs.defining.define_strings.Given as goal

abbrev pub invariant-loop-string : goal.invariant-loop-string
invariant-loop-string g l =
    Under g.C.Code.meaning l.initial.dictionary l.dictionary l.initial.store l.store (g.S.Source.strings l.strings) (strings_left l.string-iterator) l.initial.meter l.meter
