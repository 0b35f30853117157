use Rattle.std.proofs.Common.{◌+◌, [], length, ap, ◌∙◌, get_or, arith}
use Rattle.machine.specs.Libraries.{with_commas}
use Rattle.value.specs.Texts.{names_of, capped, joined_name}
use Rattle.value.proofs.Caps.{counted_more, counted_all}
use Rattle.value.proofs.Joined.{names_left, names_cut, no_names_left}
use Rattle.value.proofs.naming.names_length.Goals as goal

pub loop-string-preserved : goal.loop-string-preserved
loop-string-preserved g c comma =
    let names = names_of (g.R.Reader.meaning c.args.library.now) c.args.program in
    let i = c.loop-string.string in
    counted_more {left = names_left comma names i} {whole = with_commas comma names} (joined_name comma i (get_or names i [])) (names_left comma names (i + 1)) _
    (c.loop-string.invariant comma)
    (names_cut comma names i (omega (arith, c.loop-string-test.true, c.count-string-end.ensures)))
    (c.saturating_add-len.ensures
    ∙ ap (λ n. capped (c.loop-string.len + n)) (c.joined_length.ensures comma ∙ ap (λ t. length (joined_name comma i t)) c.name.ensures))

pub returns : goal.returns
returns g c comma =
    let names = names_of (g.R.Reader.meaning c.args.library.now) c.args.program in
    counted_all (c.loop-string.invariant comma)
    (no_names_left comma names c.loop-string.string (omega (arith, c.loop-string-test.false, c.count-string-end.ensures)))
