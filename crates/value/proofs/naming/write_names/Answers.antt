use Rattle.std.proofs.Common.{◌+◌, ◌++◌, [], length, take, ap, ◌∙◌, get_or, arith}
use Rattle.value.specs.Texts.{names_of, joined_name}
use Rattle.value.proofs.Pieces.{more}
use Rattle.value.proofs.Joined.{names_left, names_cut}
use Rattle.value.proofs.naming.write_names.Goals as goal

pub loop-string-preserved : goal.loop-string-preserved
loop-string-preserved g c =
    let comma = g.C.Code.meaning.named 44 in
    let names = names_of (g.R.Reader.meaning c.args.library.now) c.args.program in
    let i = c.loop-string.string in
    let cut = names_cut comma names i (omega (arith, c.loop-string-test.true, c.count-string-end.ensures)) in
    let piece = ap (joined_name comma i) c.name.ensures in
    more (joined_name comma i (get_or names i [])) (names_left comma names (i + 1)) _ _ c.loop-string.invariant cut
    (c.put_joined-at.ensures.end ∙ ap (λ t. c.loop-string.at + length t) piece)
    (c.put_joined-at.ensures.written ∙ ap (λ t. take c.loop-string.at c.loop-string.out ++ t) piece)
    c.put_joined-at.ensures.len
