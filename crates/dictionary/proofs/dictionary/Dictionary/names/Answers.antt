use Rattle.std.proofs.Common.{◌∙◌}
use Rattle.dictionary.proofs.Sizes.{names_counted}
use Rattle.dictionary.proofs.dictionary.Dictionary.names.Goals as goal

pub returns : goal.returns
returns c store = c.len.ensures ∙ names_counted c.args.self.now store
