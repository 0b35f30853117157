use Rattle.machine.proofs.Matching.{in_balance}
use Rattle.machine.proofs.PlainText.{plain_text}
use Rattle.machine.proofs.Ruling.{by_one_rule}
use Rattle.machine.proofs.laws.scan_laws_hold.Goals as goal

pub returns : goal.returns
returns c = record { rules = by_one_rule; brackets = in_balance; plain = plain_text }
