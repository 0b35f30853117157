use Rattle.std.proofs.Common.{refl}
use Rattle.std.proofs.Output.{has_written_append, has_written_of_eq}
use Rattle.listing.proofs.Lines.{code_line_is, count_lines_are, lock_line_is, space_line_is, head_is}
use Rattle.listing.proofs.head.HeadDisplay.fmt.Goals as goal

pub returns-clause-writes : goal.returns-clause-writes
returns-clause-writes g c = λ plain ok.
    let one = rw (c.number-number.ensures, c.title-title.ensures, code_line_is) at c.in_ok-writeln.ensures.writes plain refl in
    let two = rw (c.programs-programs.ensures, c.count_strings-strings.ensures, count_lines_are) at c.in_ok-writeln-2.ensures.writes one.plain refl in
    let three = rw (c.yes_or_no-locked.ensures, c.is_locked.ensures, lock_line_is) at c.in_ok-writeln-3.ensures.writes two.plain refl in
    let four = rw (c.space-programs.ensures, space_line_is) at c.writeln-4.ensures.writes three.plain ok in
    has_written_of_eq _ _ _ _ _ (head_is g.C.Code.meaning g.C.Glyphs.title (g.R.Reader.meaning c.args.self.now.library.now))
    (has_written_append _ _ _ _ _ _ one (has_written_append _ _ _ _ _ _ two (has_written_append _ _ _ _ _ _ three four)))
