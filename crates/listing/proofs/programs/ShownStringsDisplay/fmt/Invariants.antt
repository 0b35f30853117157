use Rattle.std.proofs.Common.{◌≡◌, ℕ, List, ◌++◌}
use Rattle.std.specs.Fmt.{HasWritten, IsPlainFormatter}
use Rattle.std.specs.List.{flat_map}
use Rattle.library.specs.Iterators.{strings_left}
use Rattle.listing.specs.Listing.{shown_string}
use Rattle.listing.proofs.programs.ShownStringsDisplay.fmt.Given as goal

abbrev pub invariant-loop-string : goal.invariant-loop-string
invariant-loop-string g l =
    let shown = flat_map (shown_string g.C.Code.meaning g.C.Glyphs.glyph) in
    IsPlainFormatter l.initial.f → (done : List ℕ) × HasWritten g.W.Write.write_str_gives l.initial.f done l.f
    × (done ++ shown (strings_left l.string-iterator) ≡ shown (g.S.Source.strings l.fn.self.strings.now))
