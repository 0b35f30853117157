use Rattle.std.proofs.Common.{sym, ◌∙◌}
use Rattle.area.proofs.Found.{begins_is}
use Rattle.area.proofs.finding.begins.Goals as goal

pub returns : goal.returns
returns c = c.starts_with.ensures.value ∙ sym (begins_is c.args.sought.now c.args.text.now)
