use Rattle.std.proofs.Common.{[], ◌++◌, take, refl, ◌∙◌, rules}
use Rattle.std.proofs.Output.{has_written_append, has_written_of_eq}
use Rattle.std.proofs.lemmas.List.{nil_from_length}
use Rattle.listing.specs.Listing.{shown_byte}
use Rattle.listing.proofs.EachShown.{several_shown, all_shown}
use Rattle.listing.proofs.text.ShownTextDisplay.fmt.Goals as goal

pub loop-bytes-init : goal.loop-bytes-init
loop-bytes-init g c = (search rules, tt, search rules, λ plain. ([], search rules, search rules))

pub loop-bytes-preserved : goal.loop-bytes-preserved
loop-bytes-preserved g c =
    let show = shown_byte g.C.Code.meaning g.C.Glyphs.glyph in
    let steps = c.in-Some.ensures.steps in (
      search rules,
      tt,
      steps.0 ∙ c.loop-bytes.invariant.2,
      λ plain.
          let so_far = c.loop-bytes.invariant.3 plain in (
            so_far.0 ++ take c.put_bytes-end.result c.put_bytes-end.new.run,
            has_written_append _ _ _ _ _ _ so_far.1 (c.in_ok-write_run.ensures so_far.1.plain refl),
            several_shown show _ so_far.0 _ _ c.in-Some.bytes.now _ steps.1.0 c.put_bytes-end.ensures.shown so_far.2,
          ),
    )

pub returns-clause-writes : goal.returns-clause-writes
returns-clause-writes g c = λ plain ok.
    let show = shown_byte g.C.Code.meaning g.C.Glyphs.glyph in
    let so_far = c.loop-bytes.invariant.3 plain in
    has_written_of_eq _ _ _ _ _ (all_shown show _ so_far.0 _ (nil_from_length _ c.in-None.ensures.steps.1.0) so_far.2) so_far.1
