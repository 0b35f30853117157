use Rattle.std.proofs.Common.{◌≡◌, ◌≢◌, ℕ, get_or, sym, ◌∙◌, arith}
use Rattle.std.proofs.lemmas.Bool.{ne_eqb, and_left, and_right}
use Rattle.selection.proofs.Leveled.{after_protected, after_at, after_less, after_greater, after_other}
use Rattle.selection.proofs.levels.zero_level.Goals as goal
use Rattle.selection.proofs.levels.zero_level.Goals.{then-protected, else-protected+then-byte-signs, else-protected+else-byte-signs+then-byte-signs-2, else-protected+else-byte-signs+else-byte-signs-2+then-byte-signs-3, else-protected+else-byte-signs+else-byte-signs-2+else-byte-signs-3+else-byte-signs-4, else-byte-signs-4-via-then-byte-signs-4+else-level-eq0, else-byte-signs-4-via-else-byte-signs-4}

-- a byte that is not this sign is not what the sign is
no_sign : (b sign named : ℕ) → b ≢ sign → sign ≡ named → b ≢ named
no_sign b sign named other is e = other (e ∙ sym is)

pub loop-place-preserved : goal.loop-place-preserved
loop-place-preserved g c =
    let b = get_or c.args.text.now c.loop-place.place 0 in
    let more = c.loop-place-test.true in
    let s = c.args.signs.now in
    elim c.if-protected.branch [
      | then-protected w ↦ after_protected c.loop-place.invariant more _ _ w.if-protected.true w.protected-is w.level-is
      | else-protected+then-byte-signs w ↦
          after_at c.loop-place.invariant more _ _ w.if-protected.false (w.if-byte-signs.true ∙ s.at_is) w.protected-is w.level-is
      | else-protected+else-byte-signs+then-byte-signs-2 w ↦
          after_less c.loop-place.invariant more _ _ w.if-protected.false (no_sign b s.at _ w.if-byte-signs.false s.at_is) w.protected-is
          (w.if-byte-signs-2.true ∙ s.less_is) w.level-is
      | else-protected+else-byte-signs+else-byte-signs-2+then-byte-signs-3 w ↦
          after_greater c.loop-place.invariant more _ _ w.if-protected.false (no_sign b s.at _ w.if-byte-signs.false s.at_is) w.protected-is
          (no_sign b s.less _ w.if-byte-signs-2.false s.less_is) (w.if-byte-signs-3.true ∙ s.greater_is) (omega arith)
      | else-protected+else-byte-signs+else-byte-signs-2+else-byte-signs-3+else-byte-signs-4 w ↦
          after_other c.loop-place.invariant more _ _ w.if-protected.false (no_sign b s.at _ w.if-byte-signs.false s.at_is) w.protected-is
          (no_sign b s.less _ w.if-byte-signs-2.false s.less_is) (no_sign b s.greater _ w.if-byte-signs-3.false s.greater_is)
          (elim w.else-byte-signs-4.branch [
            | else-byte-signs-4-via-then-byte-signs-4+else-level-eq0 v ↦ and_right _ _ (ne_eqb c.loop-place.level 0 v.if-level-eq0.false)
            | else-byte-signs-4-via-else-byte-signs-4 v ↦ and_left _ _ (ne_eqb b _ (no_sign b s.semicolon _ v.if-byte-signs-4.false s.semicolon_is))
          ])
          w.level-is
    ]
