use Rattle.std.proofs.Common.{ℕ, List, length, sym, ap, ◌∙◌, arith}
use Rattle.machine.specs.Dictionary.{string, new_string, rest_of}
use Rattle.dictionary.specs.Strings.{string_in}
use Rattle.leaf_tests.proofs.Fitting.{room_fits}
use Rattle.leaf_tests.proofs.stored.Stored.copy.Goals as goal

pub define_copy-requires-clause-room : goal.define_copy-requires-clause-room
define_copy-requires-clause-room g c =
    let own = c.args.self.now in
    let there = c.in-Some.string in
    let fits = c.fits.ensures c.if-not-fits.false in
    let same = c.as_mut_slice-store.ensures.value in
    let size = ap length (ap (λ (s : List ℕ). rest_of (string_in there s)) (same ∙ sym c.as_slice.ensures.value) ∙ sym c.rest-rest.ensures) in
    let takes = c.needs.ensures g.C.Code.meaning (string (new_string (rest_of (string_in there c.as_mut_slice-store.result.now)))) size in
    room_fits g.C.Code.meaning _ _ _ _ _ _ _ _ same takes fits.0 own.memory fits.1 c.as_mut_slice-store.ensures.len (omega (arith, c.as_mut_slice-store.type_inv))
