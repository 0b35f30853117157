use Rattle.std.proofs.Common.{ℕ}
use Rattle.machine.specs.Libraries.{with_commas}
use Rattle.value.specs.Texts.{names_of}
use Rattle.value.proofs.Caps.{Counted}
use Rattle.value.proofs.Joined.{names_left}
use Rattle.value.proofs.naming.names_length.Given as goal

abbrev pub invariant-loop-string : goal.invariant-loop-string
invariant-loop-string g l =
    let names = names_of (g.R.Reader.meaning l.library) l.program in
    (comma : ℕ) → Counted l.len (names_left comma names l.string) (with_commas comma names)
