use Rattle.std.proofs.Common.{◌≡◌, ℕ, List, ◌++◌}
use Rattle.std.specs.Fmt.{HasWritten, IsPlainFormatter}
use Rattle.std.specs.List.{flat_map}
use Rattle.library.specs.Iterators.{programs_left}
use Rattle.listing.specs.Listing.{shown_program}
use Rattle.listing.proofs.programs.ShownProgramsDisplay.fmt.Given as goal

abbrev pub invariant-loop-program : goal.invariant-loop-program
invariant-loop-program g l =
    let shown = flat_map (shown_program g.C.Code.meaning g.C.Glyphs.glyph) in
    IsPlainFormatter l.initial.f → (done : List ℕ) × HasWritten g.W.Write.write_str_gives l.initial.f done l.f
    × (done ++ shown (programs_left l.program-iterator) ≡ shown (g.R.Reader.meaning l.fn.self.library.now).programs)
