use Rattle.std.proofs.Common.{drop}
use Rattle.std.proofs.lemmas.List.{take_rest, drop-drop}
use Rattle.scan.proofs.fields.behind.Goals as goal

pub returns-in-len1-up : goal.returns-in-len1-up
returns-in-len1-up c =
    let entries = c.args.entries.now in
    rw (take_rest entries c.args.at, take_rest (drop c.args.at entries) 1) (drop-drop 1 c.args.at entries)
