use Rattle.std.proofs.Common.{arith, refl}
use Rattle.area.proofs.Copied.{Splicing, after_piece, take-after, drop-after}
use Rattle.area.proofs.splicing.splice.Goals as goal

pub returns-clause-text : goal.returns-clause-text
returns-clause-text c =
    let splicing : Splicing c.args.area.now c.args.piece.now c.args.used c.args.part.start c.args.part.end _ =
    record { part = (omega arith, omega arith, omega arith); behind = refl; fits = omega arith } in
    take-after splicing _ (after_piece splicing _ _ _ c.copy_within.ensures.after c.copy_from_slice.ensures.after refl)

pub returns-clause-past : goal.returns-clause-past
returns-clause-past c =
    let splicing : Splicing c.args.area.now c.args.piece.now c.args.used c.args.part.start c.args.part.end _ =
    record { part = (omega arith, omega arith, omega arith); behind = refl; fits = omega arith } in
    drop-after splicing _ (after_piece splicing _ _ _ c.copy_within.ensures.after c.copy_from_slice.ensures.after refl)
