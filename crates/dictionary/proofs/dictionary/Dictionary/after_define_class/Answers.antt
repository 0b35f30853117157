use Rattle.std.proofs.Common.{arith}
use Rattle.dictionary.proofs.Taken.{class_taken, new_class_taken}
use Rattle.dictionary.proofs.dictionary.Dictionary.after_define_class.Goals as goal

pub returns-in-Some : goal.returns-in-Some
returns-in-Some c members =
    let taken = class_taken c.args.self.now c.args.store.now c.args.name.now c.in-Some.field-0 members c.requires c.in-Some.ensures in
    record { classes = omega (arith, taken.classes, c.len-classes.ensures); bytes = omega (arith, taken.bytes_are) }

pub returns-in-None : goal.returns-in-None
returns-in-None c members =
    let taken = new_class_taken c.args.self.now c.args.store.now c.args.name.now members c.requires c.in-None.ensures in
    record { classes = omega (arith, taken.classes, c.len-classes.ensures); bytes = omega (arith, taken.bytes_are) }
