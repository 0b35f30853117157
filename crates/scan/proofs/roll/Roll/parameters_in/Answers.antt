use Rattle.std.proofs.Common.{◌≡◌, ◌+◌, ◌∙◌, drop}
use Rattle.machine.specs.Scan.{innermost}
use Rattle.scan.proofs.Rolls.{fields_behind}
use Rattle.scan.proofs.roll.Roll.parameters_in.Goals as goal

pub returns : goal.returns
returns c right w =
    let roll = c.args.self.now.entries.items in
    let entries : c.behind.result.now ≡ drop (innermost roll + 1) roll = c.behind.ensures ∙ rw (c.innermost.ensures.value, c.deref.ensures.value) in
    rw entries (fields_behind roll c.args.left.now (innermost roll + 1))
