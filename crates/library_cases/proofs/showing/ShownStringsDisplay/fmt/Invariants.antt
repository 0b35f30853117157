use Rattle.std.proofs.Common.{◌≡◌, ℕ, List, ◌++◌}
use Rattle.std.specs.Fmt.{HasWritten, IsPlainFormatter}
use Rattle.std.specs.List.{flat_map}
use Rattle.library.specs.Iterators.{strings_left}
use Rattle.library_cases.specs.Showing.{shown_string}
use Rattle.library_cases.proofs.showing.ShownStringsDisplay.fmt.Given as goal

abbrev pub invariant-loop-string : goal.invariant-loop-string
invariant-loop-string g l =
    IsPlainFormatter l.initial.f → (done : List ℕ) × HasWritten g.W.Write.write_str_gives l.initial.f done l.f
    × (done ++ flat_map shown_string (strings_left l.string-iterator) ≡ flat_map shown_string (g.S.Source.strings l.fn.self.0.now))
