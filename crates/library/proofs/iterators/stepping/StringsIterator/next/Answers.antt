use Rattle.library.specs.Views.{string_viewed}
use Rattle.library.proofs.Stepping.{stepped}
use Rattle.library.proofs.iterators.stepping.StringsIterator.next.Goals as goal

pub returns-clause-steps : goal.returns-clause-steps
returns-clause-steps g c =
    let here = c.args.self.now in
    let step = c.in_ok-next.ensures.steps.1 in
    stepped string_viewed (g.S.Source.strings here.source.now) here.places.start c.in_ok-next.field-0 c.next.new.self.start here.places.end c.string.result c.string.ensures here.counted step.0 step.1 step.2
