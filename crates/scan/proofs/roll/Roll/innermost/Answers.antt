use Rattle.std.proofs.Common.{◌∙◌, subst}
use Rattle.scan.proofs.Rolls.{found_opening}
use Rattle.scan.specs.Openings.{LastOpening}
use Rattle.scan.proofs.roll.Roll.innermost.Goals as goal

pub returns-clause-value : goal.returns-clause-value
returns-clause-value c =
    c.unwrap_or.ensures ∙ found_opening c.args.self.now.entries.items c.last_opening.result (subst (λ q. LastOpening q c.last_opening.result) c.deref.ensures.value c.last_opening.ensures)
