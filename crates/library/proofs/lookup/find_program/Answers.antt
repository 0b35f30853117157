use Rattle.std.proofs.Common.{◌≡◌, rules}
use Rattle.std.proofs.lemmas.Iterator.{IsFirst-from_position}
use Rattle.std.proofs.lemmas.Iterator.Consumers.{YieldsList-from_first}
use borrow.Author.Tests.{tests}
use Rattle.library.specs.Meaning.{Program}
use Rattle.library.specs.Views.{program_viewed}
use Rattle.library.specs.Iterators.{programs_left}
use Rattle.library.proofs.Places.{searched}
use Rattle.library.proofs.lookup.find_program.Goals as goal

pub returns : goal.returns
returns g c =
    let n = c.args.name.now in
    let ps = (g.R.Reader.meaning c.args.library.now).programs in
    let first = IsFirst-from_position c.position.new.self _ c.position.result (λ (p : Program). p.name ≡ n) (λ (p : Program). p.name ≡ n → ⊥) c.position.ensures.ran (YieldsList-from_first (program_viewed g.R.Reader.meaning) programs_left ps c.each_program.ensures) (λ x q k. search (rules, tests)) (λ x q k. search (rules, tests)) in
    let told = searched n ps c.position.result first (g.R.Reader.lawful c.args.library.now) in
    record { place = told.0; found = told.1; only = told.2 }
