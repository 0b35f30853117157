use Rattle.std.proofs.Common.{refl, arith}
use Rattle.machine.specs.Dictionary.{built_in}
use Rattle.leaf_tests.proofs.Fitting.{room_fits}
use Rattle.leaf_tests.proofs.stored.Stored.copy_built_in.Goals as goal

pub define_built_in-requires-clause-room : goal.define_built_in-requires-clause-room
define_built_in-requires-clause-room g c =
    let fits = c.fits.ensures c.if-not-fits.false in
    let takes = c.needs.ensures g.C.Code.meaning (built_in c.args.function) refl in
    room_fits g.C.Code.meaning _ _ _ _ _ _ _ _ c.as_mut_slice-store.ensures.value takes fits.0 c.args.self.now.memory fits.1 c.as_mut_slice-store.ensures.len (omega (arith, c.as_mut_slice-store.type_inv))
