use Rattle.std.proofs.Common.{arith, []}
use Rattle.area.proofs.Copied.{Splicing, after_removal, take-after}
use Rattle.area.proofs.splicing.remove.Goals as goal

pub returns-clause-text : goal.returns-clause-text
returns-clause-text c =
    let splicing : Splicing c.args.area.now [] c.args.used c.args.part.start c.args.part.end c.args.part.start =
    record { part = (omega arith, omega arith, omega arith); behind = omega arith; fits = omega arith } in
    take-after splicing _ (after_removal splicing _ c.copy_within.ensures.after)
