use Rattle.std.proofs.Common.{rules}
use Rattle.std.proofs.lemmas.Str.{IsUtf8-from_ascii}
use Rattle.listing.proofs.text.write_run.Goals as goal

pub unwrap-requires : goal.unwrap-requires
unwrap-requires g c = let text = IsUtf8-from_ascii _ c.requires in search rules
