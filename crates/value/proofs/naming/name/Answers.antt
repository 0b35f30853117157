use Rattle.std.proofs.Common.{sym, ◌∙◌, ap}
use Rattle.std.specs.Option.{option_map}
use Rattle.library.specs.Views.{string_viewed}
use Rattle.value.proofs.Joined.{no_name}
use Rattle.value.proofs.naming.name.Goals as goal

pub returns-in-None : goal.returns-in-None
returns-in-None g c = no_name _ c.args.string (sym c.string.ensures ∙ ap (option_map string_viewed) c.in-None.is)
