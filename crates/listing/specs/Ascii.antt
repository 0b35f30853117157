-- The glyphs of ASCII: each printable character itself, but for the braces, which have none. Assumes nothing.
use Rattle.std.specs.Prelude.{ℕ, cond, ◌||◌, Some, None, Option, ◌==◌, refl}
use Rattle.code.specs.Meaning.{within}
use Rattle.listing.specs.Glyphs.{GlyphLaw, law_of}

abbrev pub ascii_glyph : ℕ → Option ℕ
ascii_glyph b = cond (b == 0x7B || b == 0x7D) None (cond (within 0x20 0x7E b) (Some b) None)

pub ascii_printable : GlyphLaw ascii_glyph
ascii_printable = law_of ascii_glyph refl
