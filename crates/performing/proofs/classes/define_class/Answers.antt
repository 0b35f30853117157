use Rattle.std.proofs.Common.{refl}
use Rattle.performing.proofs.classes.define_class.Goals as goal

pub returns-clause-world : goal.returns-clause-world
returns-clause-world g c = rw (c.define_class.ensures.meaning, c.get-2.ensures, c.class_of_bytes-members.ensures, c.get.ensures) refl
