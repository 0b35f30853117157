-- The characters by which the bytes of a code are shown, and the law that they keep. Assumes nothing.
use Rattle.std.specs.Prelude.{◌≡◌, ℕ, suc, ◌<◌, ◌≤◌, Bool, true, not, ◌&&◌, Some, Option, ◌==◌, nat_le, refl}
use Rattle.std.proofs.lemmas.Bool.{and_parts, not-true, eqb-false, leb-true}
use Rattle.code.specs.Laws.{any, every, every_at, if_some}

-- printable ASCII, and neither { nor }, which begin and end what stands for a mark
pub record Printable (c : ℕ) : Type 0 where
  pub low : 32 ≤ c
  pub high : c < 127
  pub no_open : c ≡ 123 → ⊥
  pub no_close : c ≡ 125 → ⊥

-- Each glyph of a byte is such a character.
abbrev pub GlyphLaw : (ℕ → Option ℕ) → Type 0
GlyphLaw glyph = (b c : ℕ) → b < 256 → glyph b ≡ Some c → Printable c

-- The same as a test that antt computes.

abbrev pub printable : ℕ → Bool
printable c = nat_le 32 c && nat_le (suc c) 127 && not (c == 123) && not (c == 125)

abbrev pub glyphs_pass : (ℕ → Option ℕ) → Bool
glyphs_pass glyph = every 256 any (λ b. if_some (glyph b) printable)

-- what the test shows of a character
shown : (c : ℕ) → printable c ≡ true → Printable c
shown c t =
    let a = and_parts (nat_le 32 c && nat_le (suc c) 127 && not (c == 123)) (not (c == 125)) t in
    let b = and_parts (nat_le 32 c && nat_le (suc c) 127) (not (c == 123)) a.0 in
    let e = and_parts (nat_le 32 c) (nat_le (suc c) 127) b.0 in
    record {
      low = leb-true 32 c e.0;
      high = leb-true (suc c) 127 e.1;
      no_open = eqb-false c 123 (not-true _ b.1);
      no_close = eqb-false c 125 (not-true _ a.1);
    }

pub law_of : (glyph : ℕ → Option ℕ) → glyphs_pass glyph ≡ true → GlyphLaw glyph
law_of glyph t b c h e = shown c (rw e at (every_at 256 any (λ k. if_some (glyph k) printable) t b h refl))
