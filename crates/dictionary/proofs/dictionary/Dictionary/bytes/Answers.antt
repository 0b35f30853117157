use Rattle.dictionary.proofs.Sizes.{bytes_used}
use Rattle.dictionary.proofs.dictionary.Dictionary.bytes.Goals as goal

pub returns-clause-bytes : goal.returns-clause-bytes
returns-clause-bytes c store h = bytes_used c.args.self.now store h
