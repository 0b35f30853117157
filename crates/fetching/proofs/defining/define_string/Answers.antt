use Rattle.std.proofs.Common.{refl, sym, ◌∙◌}
use Rattle.std.proofs.lemmas.Result.{err_from_is_err_and}
use Rattle.library.specs.Views.{string_viewed}
use Rattle.machine.specs.Dictionary.{string, new_string}
use Rattle.fetching.proofs.Strings.{too_many_names, too_many_bytes, string_fits, room_for_string}
use Rattle.fetching.proofs.defining.define_string.Goals as goal

pub returns-in_err-put-clause-meets : goal.returns-in_err-put-clause-meets
returns-in_err-put-clause-meets g c w =
    let code = g.C.Code.meaning in
    let takes = c.after_define-needs.ensures code (string (new_string c.args.string.body.now)) refl in
    let is_proper = sym c.is_proper.ensures ∙ c.if-not-is_proper.false in
    let p = err_from_is_err_and c.from_residual.result c.from_residual.ensures.1 in
    rw (p.1, p.2) (too_many_names code (string_viewed c.args.string) _ _ takes _ _ c.put.new.self w is_proper _ _ c.in_err-put.ensures)

pub returns-in_err-put-2-clause-meets : goal.returns-in_err-put-2-clause-meets
returns-in_err-put-2-clause-meets g c w =
    let code = g.C.Code.meaning in
    let takes = c.after_define-needs.ensures code (string (new_string c.args.string.body.now)) refl in
    let is_proper = sym c.is_proper.ensures ∙ c.if-not-is_proper.false in
    let p = err_from_is_err_and c.from_residual-in_err-put-2.result c.from_residual-in_err-put-2.ensures.1 in
    rw (p.1, p.2) (too_many_bytes code (string_viewed c.args.string) _ _ takes _ _ _ w is_proper _ _ c.in_ok-put.ensures c.in_err-put-2.ensures)

pub define_string-requires-clause-room : goal.define_string-requires-clause-room
define_string-requires-clause-room g c =
    let code = g.C.Code.meaning in
    let takes = c.after_define-needs.ensures code (string (new_string c.args.string.body.now)) refl in
    room_for_string code (string_viewed c.args.string) _ _ takes _ _ _ c.requires.small c.in_ok-put.ensures c.in_ok-put-2.ensures _ _ c.requires

pub returns-clause-meets : goal.returns-clause-meets
returns-clause-meets g c w =
    let code = g.C.Code.meaning in
    let takes = c.after_define-needs.ensures code (string (new_string c.args.string.body.now)) refl in
    let is_proper = sym c.is_proper.ensures ∙ c.if-not-is_proper.false in
    rw c.define_string.ensures.meaning (string_fits code (string_viewed c.args.string) _ _ takes _ _ _ w is_proper c.requires.small _ c.in_ok-put.ensures c.in_ok-put-2.ensures)
