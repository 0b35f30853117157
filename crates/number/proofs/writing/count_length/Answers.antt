use Rattle.std.proofs.Common.{rules}
use Rattle.std.proofs.lemmas.Fmt.{length-decimal-le}
use Rattle.number.proofs.writing.count_length.Goals as goal

pub returns-clause-short : goal.returns-clause-short
returns-clause-short c = search (rules, length-decimal-le 20)
