use Rattle.std.proofs.Common.{rules, ◌≤◌, ◌<◌, ◌^◌, length, ap, ◌∙◌, arith, length-drop}
use Rattle.std.proofs.lemmas.Iterator.Adapters.{fits_from_length, at_most_from_yields_List}
use Rattle.std.proofs.lemmas.Iterator.Consumers.{YieldsList-from_first}
use borrow.Author.Tests.{tests}
use Rattle.library.specs.Views.{program_viewed}
use Rattle.library.specs.Iterators.{programs_left}
use Rattle.library.proofs.counting.count_strings.Goals as goal

pub sum-requires-clause-fits : goal.sum-requires-clause-fits
sum-requires-clause-fits g c =
    let ps = (g.R.Reader.meaning c.args.library.now).programs in
    let made = c.each_program.result in
    let end : made.places.end < 2 ^ 64 = search rules in
    let few : length ps ≤ 2 ^ 64 = omega (arith, made.counted, end, ap length c.each_program.ensures, length-drop made.places.start (g.R.Reader.meaning made.library.now).programs) in
    fits_from_length _ _ (2 ^ 64) (2 ^ 128) (at_most_from_yields_List (YieldsList-from_first (program_viewed g.R.Reader.meaning) programs_left ps (ap programs_left c.map.ensures.source ∙ c.each_program.ensures)) few) c.map.ensures.closure (omega arith) (λ x r q k. search (rules, tests))
