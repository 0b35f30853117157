use Rattle.std.proofs.Common.{[], ◌++◌, refl, rules}
use Rattle.std.proofs.Output.{has_written_append}
use Rattle.library.specs.Views.{string_viewed}
use Rattle.listing.proofs.EachShown.{one_shown}
use Rattle.library_cases.specs.Showing.{shown_string}
use Rattle.library_cases.proofs.showing.ShownStringsDisplay.fmt.Goals as goal

pub loop-string-init : goal.loop-string-init
loop-string-init g c = λ plain. ([], search rules, search rules)

pub loop-string-preserved : goal.loop-string-preserved
loop-string-preserved g c = λ plain.
    let so_far = c.loop-string.invariant plain in (
      so_far.0 ++ shown_string (string_viewed c.in-Some.string),
      has_written_append _ _ _ _ _ _ so_far.1 (c.in_ok-write.ensures.writes so_far.1.plain refl),
      one_shown shown_string _ so_far.0 _ _ _ c.in-Some.ensures.steps so_far.2,
    )
