use Rattle.std.proofs.Common.{refl, arith}
use Rattle.machine.specs.Dictionary.{string, new_string}
use Rattle.leaf_tests.proofs.Fitting.{room_fits}
use Rattle.leaf_tests.proofs.stored.Stored.define.Goals as goal

pub define_string-requires-clause-room : goal.define_string-requires-clause-room
define_string-requires-clause-room g c =
    let fits = c.fits.ensures c.if-not-fits.false in
    let takes = c.needs.ensures g.C.Code.meaning (string (new_string c.args.body.now)) refl in
    room_fits g.C.Code.meaning _ _ _ _ _ _ _ _ c.as_mut_slice-store.ensures.value takes fits.0 c.args.self.now.memory fits.1 c.as_mut_slice-store.ensures.len (omega (arith, c.as_mut_slice-store.type_inv))
