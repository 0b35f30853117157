use Rattle.std.proofs.Common.{[], ◌++◌, refl, rules}
use Rattle.std.proofs.Output.{has_written_append}
use Rattle.library.specs.Views.{string_viewed}
use Rattle.listing.specs.Listing.{shown_string}
use Rattle.listing.proofs.EachShown.{one_shown}
use Rattle.listing.proofs.programs.ShownStringsDisplay.fmt.Goals as goal

pub loop-string-init : goal.loop-string-init
loop-string-init g c = λ plain. ([], search rules, search rules)

pub loop-string-preserved : goal.loop-string-preserved
loop-string-preserved g c = λ plain.
    let show = shown_string g.C.Code.meaning g.C.Glyphs.glyph in
    let so_far = c.loop-string.invariant plain in (
      so_far.0 ++ show (string_viewed c.in-Some.string),
      has_written_append _ _ _ _ _ _ so_far.1 (c.in_ok-write.ensures.writes so_far.1.plain refl),
      one_shown show _ so_far.0 _ _ _ c.in-Some.ensures.steps so_far.2,
    )
