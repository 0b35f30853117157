use Rattle.scan.specs.Texts.{right_of}
use Rattle.scan.proofs.roll.Roll.parameters.Goals as goal

pub returns : goal.returns
returns c w = rw (← c.left.ensures) (c.parameters_in.ensures (right_of c.args.texts.now) w)
