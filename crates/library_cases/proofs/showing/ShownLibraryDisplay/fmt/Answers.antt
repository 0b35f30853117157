use Rattle.std.proofs.Common.{◌≡◌, [], ◌++◌, cond, codes, refl, rules}
use Rattle.std.proofs.Output.{has_written_append, has_written_of_eq}
use Rattle.std.specs.List.{flat_map}
use Rattle.library.specs.Views.{program_viewed}
use Rattle.library.specs.Iterators.{programs_left}
use Rattle.listing.proofs.EachShown.{one_shown, all_shown}
use Rattle.library_cases.specs.Showing.{shown_program}
use Rattle.library_cases.proofs.Lines.{library_is}
use Rattle.library_cases.proofs.showing.ShownLibraryDisplay.fmt.Goals as goal
use Rattle.library_cases.proofs.showing.ShownLibraryDisplay.fmt.Goals.{then-is_locked, else-is_locked}

pub loop-program-init : goal.loop-program-init
loop-program-init g c = λ plain. ([], search rules, search rules)

pub loop-program-preserved : goal.loop-program-preserved
loop-program-preserved g c = λ plain.
    let so_far = c.loop-program.invariant plain in (
      so_far.0 ++ shown_program (program_viewed g.R.Reader.meaning c.in-Some.program),
      has_written_append _ _ _ _ _ _ so_far.1 (c.in_ok-write-2.ensures.writes so_far.1.plain refl),
      one_shown shown_program _ so_far.0 _ _ _ c.in-Some.ensures.steps so_far.2,
    )

pub returns-clause-writes : goal.returns-clause-writes
returns-clause-writes g c = λ plain ok.
    let l = g.R.Reader.meaning c.args.self.now.0.now in
    let answer : c.if-is_locked.locked.now ≡ cond l.locked (codes "yes") (codes "no") =
    elim c.if-is_locked.branch [ then-is_locked w ↦ search rules | else-is_locked w ↦ search rules ] in
    let line = rw (answer, c.space-programs.ensures) at c.in_ok-write.ensures.writes plain refl in
    let programs = c.loop-program.invariant line.plain in
    let all = all_shown shown_program (flat_map shown_program l.programs) programs.0 (programs_left c.loop-program.program-iterator) c.in-None.ensures.steps.0 programs.2 in
    has_written_of_eq _ _ _ _ _ (library_is l) (has_written_append _ _ _ _ _ _ line (rw all at programs.1))
