use Rattle.std.proofs.Common.{◌≡◌, ℕ, List, ◌++◌}
use Rattle.std.specs.Fmt.{HasWritten, IsPlainFormatter}
use Rattle.std.specs.List.{flat_map}
use Rattle.library.specs.Iterators.{programs_left}
use Rattle.library_cases.specs.Showing.{shown_program}
use Rattle.library_cases.proofs.showing.ShownLibraryDisplay.fmt.Given as goal

abbrev pub invariant-loop-program : goal.invariant-loop-program
invariant-loop-program g l =
    IsPlainFormatter l.initial.f → (done : List ℕ) × HasWritten g.W.Write.write_str_gives l.initial.f done l.f
    × (done ++ flat_map shown_program (programs_left l.program-iterator) ≡ flat_map shown_program (g.R.Reader.meaning l.fn.self.0.now).programs)
