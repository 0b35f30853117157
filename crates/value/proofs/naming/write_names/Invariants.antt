use Rattle.machine.specs.Libraries.{with_commas}
use Rattle.value.specs.Texts.{names_of}
use Rattle.value.proofs.Pieces.{Written}
use Rattle.value.proofs.Joined.{names_left}
use Rattle.value.proofs.naming.write_names.Given as goal

abbrev pub invariant-loop-string : goal.invariant-loop-string
invariant-loop-string g l =
    let comma = g.C.Code.meaning.named 44 in
    let names = names_of (g.R.Reader.meaning l.library) l.program in
    Written l.out (names_left comma names l.string) (with_commas comma names) l.at
