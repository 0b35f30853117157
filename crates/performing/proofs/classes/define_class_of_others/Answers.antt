use Rattle.std.proofs.Common.{refl}
use Rattle.performing.proofs.classes.define_class_of_others.Goals as goal

pub define_class-requires-clause-few : goal.define_class-requires-clause-few
define_class-requires-clause-few g c = rw (c.get-2.ensures, c.class_of_others-members.ensures, c.get.ensures) c.requires.few

pub define_class-requires-clause-fits : goal.define_class-requires-clause-fits
define_class-requires-clause-fits g c = rw (c.get-2.ensures, c.class_of_others-members.ensures, c.get.ensures) c.requires.room

pub returns-clause-world : goal.returns-clause-world
returns-clause-world g c = rw (c.define_class.ensures.meaning, c.get-2.ensures, c.class_of_others-members.ensures, c.get.ensures) refl
