use Rattle.std.proofs.Common.{rules, ap, ◌∙◌, arith}
use Rattle.std.proofs.lemmas.Iterator.{YieldsList-from_zip, same_from_all}
use Rattle.std.proofs.lemmas.Iterator.Consumers.{YieldsList-from_first}
use borrow.Author.Tests.{tests}
use Rattle.library.specs.Views.{program_viewed}
use Rattle.library.specs.Iterators.{programs_left}
use Rattle.exchange.proofs.compare.same_programs.Goals as goal

pub returns-then-programs : goal.returns-then-programs
returns-then-programs g c =
    let ps = (g.R.Reader.meaning c.args.one.now).programs in
    let qs = (g.Q.Reader.meaning c.args.other.now).programs in
    same_from_all c.all.new.self _ c.all.result ps qs c.all.ensures.ran
    (YieldsList-from_zip {s = c.zip.result} (YieldsList-from_first (program_viewed g.R.Reader.meaning) programs_left ps (ap programs_left c.zip.ensures.first ∙ c.each_program.ensures)) (YieldsList-from_first (program_viewed g.Q.Reader.meaning) programs_left qs (ap programs_left c.zip.ensures.second ∙ c.each_program-then-programs.ensures)))
    (omega (arith, c.programs.ensures, c.programs-2.ensures))
    (λ x q k. search (rules, tests))
    (λ x q k. search (rules, tests))
