use Rattle.std.proofs.Common.{◌≡◌, length, ap, refl, arith, length-append, take}
use Rattle.std.proofs.lemmas.List.{length-take-le}
use Rattle.machine.specs.World.{p1}
use Rattle.machine.specs.Functions.{lines}
use Rattle.dictionary.specs.Needing.{capped}
use Rattle.asking.proofs.effects.ask_lines.Goals as goal

pub returns : goal.returns
returns g c v is =
    let first = p1 c.args.parameters.now in
    let more = lines g.C.Code.meaning.end_of_line 132 first in
    let size : c.lines_length-more.result ≡ capped (length more) = rw (c.lines_length-more.ensures, c.get.ensures, c.args.signs.now.end_is) refl in
    c.ask_print.ensures v (omega (arith, c.saturating_add.ensures, ap length is, length-append (take c.args.world.now.printed c.args.world.now.print.now) more, length-take-le c.args.world.now.printed c.args.world.now.print.now c.args.world.now.printed_within))
