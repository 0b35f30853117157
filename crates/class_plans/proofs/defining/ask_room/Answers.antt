use Rattle.std.proofs.Common.{arith}
use Rattle.machine.specs.Dictionary.{class_of}
use Rattle.class_plans.proofs.Defined.{too_many}
use Rattle.class_plans.proofs.defining.ask_room.Goals as goal

pub returns-then-classes_after-gt-CLASSES : goal.returns-then-classes_after-gt-CLASSES
returns-then-classes_after-gt-CLASSES g c test = too_many c.args.sources.now test (rw (← c.get-name.ensures) (omega (arith, c.classes_after.ensures (class_of test))))
