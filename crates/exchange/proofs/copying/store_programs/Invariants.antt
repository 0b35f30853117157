use Rattle.exchange.proofs.InTurn.{ToDo}
use Rattle.exchange.proofs.copying.store_programs.Given as goal

abbrev pub invariant-loop-program : goal.invariant-loop-program
invariant-loop-program g l =
    ToDo (g.K.Reader.meaning l.initial.library) (g.K.Reader.meaning l.library) l.first l.program l.end (g.R.Reader.meaning l.from).programs
