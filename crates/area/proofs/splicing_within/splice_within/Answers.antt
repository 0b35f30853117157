use Rattle.std.proofs.Common.{◌≡◌, ◌+◌, ◌-◌, slice_range, take, drop, refl, arith, ◌∙◌, length-take, length-drop}
use Rattle.area.proofs.Copied.{Splicing, after, after_copy, after_inside, piece_before, piece_behind, take-after, drop-after}
use Rattle.area.proofs.splicing_within.splice_within.Goals as goal
use Rattle.area.proofs.splicing_within.splice_within.Goals.{then-to-start, else-to-start+then-end-from, else-to-start+else-end-from}

splicing : (c : goal.Joined-to-start) → Splicing c.args.area.now (slice_range (take c.args.used c.args.area.now) c.args.piece.start c.args.piece.end) c.args.used c.args.part.start c.args.part.end (c.args.part.start + (c.args.piece.end - c.args.piece.start))
splicing c =
    let text = take c.args.used c.args.area.now in
    let i = c.args.piece.start in
    let j = c.args.piece.end in
    record {
      part = (omega arith, omega arith, omega arith);
      behind = omega (arith, length-take (j - i) (drop i text), length-drop i text, length-take c.args.used c.args.area.now);
      fits = omega arith;
    }

whole : (c : goal.Joined-to-start) → c.if-to-start.area ≡ after c.args.area.now (slice_range (take c.args.used c.args.area.now) c.args.piece.start c.args.piece.end) c.args.used c.args.part.start c.args.part.end (c.args.part.start + (c.args.piece.end - c.args.piece.start))
whole c =
    elim c.if-to-start.branch [
      | then-to-start w ↦
          let there = piece_before _ _ c.args.used _ _ c.args.piece.start c.args.piece.end w.copy_within.ensures.after (omega arith) (omega arith) (omega arith) in
          w.area-is ∙ after_copy (splicing c) _ _ _ _ w.copy_within.ensures.after there (omega arith) w.copy_within-then-to-start.ensures.after
      | else-to-start+then-end-from w ↦
          let size = c.args.piece.end - c.args.piece.start in
          let moved = c.args.part.start + size + (c.args.piece.start - c.args.part.end) in
          let there = piece_behind _ _ c.args.used _ _ c.args.piece.start c.args.piece.end moved (moved + size - moved) w.copy_within-then-end-from.ensures.after (omega arith) (omega arith) (omega arith) (omega arith) (omega arith) refl (omega arith) in
          w.area-is ∙ after_copy (splicing c) _ _ _ _ w.copy_within-then-end-from.ensures.after there (omega arith) w.copy_within-then-end-from-2.ensures.after
      | else-to-start+else-end-from w ↦
          w.area-is ∙ after_inside (splicing c) _ _ w.copy_within-else-end-from.ensures.after w.copy_within-else-end-from-2.ensures.after (omega arith) (omega arith) (omega arith) refl
    ]

pub returns-clause-text : goal.returns-clause-text
returns-clause-text c = take-after (splicing c) _ (whole c)

pub returns-clause-past : goal.returns-clause-past
returns-clause-past c = drop-after (splicing c) _ (whole c)
