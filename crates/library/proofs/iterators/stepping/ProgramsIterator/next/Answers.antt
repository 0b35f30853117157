use Rattle.library.specs.Views.{program_viewed}
use Rattle.library.proofs.Stepping.{stepped}
use Rattle.library.proofs.iterators.stepping.ProgramsIterator.next.Goals as goal

pub returns-clause-steps : goal.returns-clause-steps
returns-clause-steps g c =
    let here = c.args.self.now in
    let step = c.in_ok-next.ensures.steps.1 in
    stepped (program_viewed g.R.Reader.meaning) ((g.R.Reader.meaning here.library.now).programs) here.places.start c.in_ok-next.field-0 c.next.new.self.start here.places.end c.view_program.result c.view_program.ensures.shows here.counted step.0 step.1 step.2
