use Rattle.std.proofs.Common.{[], ◌++◌, refl, rules}
use Rattle.std.proofs.Output.{has_written_append}
use Rattle.library.specs.Views.{program_viewed}
use Rattle.listing.specs.Listing.{shown_program}
use Rattle.listing.proofs.EachShown.{one_shown}
use Rattle.listing.proofs.programs.ShownProgramsDisplay.fmt.Goals as goal

pub loop-program-init : goal.loop-program-init
loop-program-init g c = λ plain. ([], search rules, search rules)

pub loop-program-preserved : goal.loop-program-preserved
loop-program-preserved g c = λ plain.
    let show = shown_program g.C.Code.meaning g.C.Glyphs.glyph in
    let so_far = c.loop-program.invariant plain in (
      so_far.0 ++ show (program_viewed g.R.Reader.meaning c.in-Some.program),
      has_written_append _ _ _ _ _ _ so_far.1 (c.in_ok-write.ensures.writes so_far.1.plain refl),
      one_shown show _ so_far.0 _ _ _ c.in-Some.ensures.steps so_far.2,
    )
