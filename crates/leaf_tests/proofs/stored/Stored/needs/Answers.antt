use Rattle.std.proofs.Common.{sym}
use Rattle.leaf_tests.proofs.stored.Stored.needs.Goals as goal

pub returns : goal.returns
returns g c code m size = rw (sym c.as_slice.ensures.value) (c.after_define.ensures code m size)
