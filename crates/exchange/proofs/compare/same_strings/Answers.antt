use Rattle.std.proofs.Common.{rules, ap, ◌∙◌, arith}
use Rattle.std.proofs.lemmas.Iterator.{YieldsList-from_zip, same_from_all}
use Rattle.std.proofs.lemmas.Iterator.Consumers.{YieldsList-from_first}
use borrow.Author.Tests.{tests}
use Rattle.library.specs.Views.{string_viewed}
use Rattle.library.specs.Iterators.{strings_left}
use Rattle.exchange.proofs.compare.same_strings.Goals as goal

pub returns-then-count : goal.returns-then-count
returns-then-count g c =
    let xs = g.S.Source.strings c.args.one.now in
    let ys = g.Q.Source.strings c.args.other.now in
    same_from_all c.all.new.self _ c.all.result xs ys c.all.ensures.ran
    (YieldsList-from_zip {s = c.zip.result} (YieldsList-from_first string_viewed strings_left xs (ap strings_left c.zip.ensures.first ∙ c.each_string.ensures)) (YieldsList-from_first string_viewed strings_left ys (ap strings_left c.zip.ensures.second ∙ c.each_string-then-count.ensures)))
    (omega (arith, c.count.ensures, c.count-2.ensures))
    (λ x q k. search (rules, tests))
    (λ x q k. search (rules, tests))
