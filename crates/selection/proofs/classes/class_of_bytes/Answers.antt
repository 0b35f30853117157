use Rattle.selection.proofs.Bytes.{flags_none, flags_all}
use Rattle.selection.proofs.classes.class_of_bytes.Goals as goal

pub loop-byte-init : goal.loop-byte-init
loop-byte-init c = flags_none c.args.text.now

pub returns : goal.returns
returns c = flags_all c.loop-byte.invariant c.loop-byte-test.false
