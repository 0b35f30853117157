use Rattle.std.proofs.Common.{◌≡◌, List, map}
use Rattle.std.specs.List.{list_all}
use Rattle.library.specs.Iterators.{strings_left}
use Rattle.library.specs.Meaning.{NamedString}
use Rattle.machine.specs.Texts.{proper_name}
use Rattle.library_plans.proofs.naming.are_proper_names.Given as goal

abbrev pub invariant-loop-string : goal.invariant-loop-string
invariant-loop-string g l =
    let proper = λ (ss : List NamedString). list_all (proper_name g.C.Code.meaning) (map (λ (s : NamedString). s.name) ss) in
    proper (g.S.Source.strings l.strings) ≡ proper (strings_left l.string-iterator)
