use Rattle.std.proofs.Common.{rules, ◌≡◌, int_div, false}
use Rattle.machine.specs.Arithmetic.{divides}
use Rattle.number.proofs.Asked.{undivided}
use Rattle.number.proofs.arithmetic.divide.Goals as goal

pub returns-else-divides : goal.returns-else-divides
returns-else-divides c =
    let no : divides c.args.x c.args.y ≡ false = search rules in
    undivided c.args.x c.args.y int_div no
