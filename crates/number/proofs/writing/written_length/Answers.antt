use Rattle.std.proofs.Common.{arith, lit<}
use Rattle.std.proofs.lemmas.Fmt.{length-decimal-le}
use Rattle.number.proofs.writing.written_length.Goals as goal

pub overflow_add-result : goal.overflow_add-result
overflow_add-result c = omega (arith, length-decimal-le 19 c.unsigned_abs.result (lit< tt) (omega arith) (omega arith))

pub returns-then-value-lt0-clause-short : goal.returns-then-value-lt0-clause-short
returns-then-value-lt0-clause-short c = omega (arith, length-decimal-le 19 c.unsigned_abs.result (lit< tt) (omega arith) (omega arith))

pub returns-else-value-lt0-clause-short : goal.returns-else-value-lt0-clause-short
returns-else-value-lt0-clause-short c = omega (arith, length-decimal-le 19 c.unsigned_abs.result (lit< tt) (omega arith) (omega arith))
