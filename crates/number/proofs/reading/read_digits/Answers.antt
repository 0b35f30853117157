use Rattle.std.proofs.Common.{◌≡◌, ◌<◌, ◌+◌, sym, ap, ◌∙◌, arith, rules, length, Some, None, get_or, drop}
use Rattle.std.proofs.lemmas.Bool.{eqb-false}
use Rattle.std.specs.Option.{option_map}
use Rattle.std.proofs.lemmas.List.{at_drop_more, at_drop_all}
use Rattle.machine.specs.Numbers.{digits_from}
use Rattle.number.specs.Numerals.{capped}
use Rattle.number.proofs.Digits.{digits_more, digits_stop, read_digits-some}
use Rattle.number.proofs.reading.read_digits.Goals as goal

pub returns-in_err-next : goal.returns-in_err-next
returns-in_err-next g c =
    let code = g.C.Code.meaning in
    let rest = drop (c.loop-byte.byte-index + 1) c.args.text.now in
    let b = get_or c.args.text.now c.loop-byte.byte-index 0 in
    let none : c.from_residual.result ≡ None = search rules in
    let stop = digits_stop code c.loop-byte.value b rest (sym c.digit.ensures ∙ c.in_err-next.was) in
    let filled : 0 < length c.args.text.now = omega arith in
    none ∙ sym stop ∙ sym (at_drop_more (λ t. option_map capped (digits_from code c.loop-byte.value t)) c.args.text.now c.loop-byte.byte-index 0 c.loop-byte-test.true) ∙ c.loop-byte.invariant.1
    ∙ ap (option_map capped) (sym (read_digits-some code c.args.text.now filled))

pub loop-byte-preserved : goal.loop-byte-preserved
loop-byte-preserved g c =
    let code = g.C.Code.meaning in
    let rest = drop (c.loop-byte.byte-index + 1) c.args.text.now in
    let b = get_or c.args.text.now c.loop-byte.byte-index 0 in
    let more = digits_more code c.loop-byte.value c.saturating_add-value.result b c.in_ok-next.next rest (sym c.digit.ensures ∙ c.in_ok-next.was) (omega arith) in
    (omega arith, more ∙ sym (at_drop_more (λ t. option_map capped (digits_from code c.loop-byte.value t)) c.args.text.now c.loop-byte.byte-index 0 c.loop-byte-test.true) ∙ c.loop-byte.invariant.1)

pub returns : goal.returns
returns g c =
    let code = g.C.Code.meaning in
    let filled : 0 < length c.args.text.now = omega (arith, eqb-false _ _ (sym c.is_empty.ensures ∙ c.if-is_empty.false)) in
    ap Some (omega arith)
    ∙ sym (at_drop_all (λ t. option_map capped (digits_from code c.loop-byte.value t)) c.args.text.now c.loop-byte.byte-index (omega arith))
    ∙ c.loop-byte.invariant.1 ∙ ap (option_map capped) (sym (read_digits-some code c.args.text.now filled))
