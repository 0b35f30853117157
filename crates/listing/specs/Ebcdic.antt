-- The glyphs of EBCDIC: the characters that all its tables share. Assumes nothing.
use Rattle.std.specs.Prelude.{ℕ, suc, ◌+◌, ◌-◌, cond, List, [], ◌∷◌, Some, None, codes, Option, ◌==◌, refl}
use Rattle.code.specs.Meaning.{within}
use Rattle.listing.specs.Glyphs.{GlyphLaw, law_of}

-- the letters and the digits, in runs; `other` is the answer for any other byte
abbrev pub letter : ℕ → Option ℕ → Option ℕ
letter b other =
    -- a to i, j to r, s to z
    cond (within 0x81 0x89 b) (Some (97 + (b - 0x81)))
    (cond (within 0x91 0x99 b) (Some (106 + (b - 0x91)))
    (cond (within 0xA2 0xA9 b) (Some (115 + (b - 0xA2)))
    -- A to I, J to R, S to Z
    (cond (within 0xC1 0xC9 b) (Some (65 + (b - 0xC1)))
    (cond (within 0xD1 0xD9 b) (Some (74 + (b - 0xD1)))
    (cond (within 0xE2 0xE9 b) (Some (83 + (b - 0xE2)))
    -- 0 to 9
    (cond (within 0xF0 0xF9 b) (Some (48 + (b - 0xF0)))
    other))))))

-- the characters cs at consecutive bytes from `first` on; `other` is the answer for any other byte
abbrev pub from_byte : ℕ → List ℕ → ℕ → Option ℕ → Option ℕ
from_byte first [] b other = other
from_byte first (c ∷ cs) b other = cond (b == first) (Some c) (from_byte (suc first) cs b other)

-- the special characters
abbrev pub special : ℕ → Option ℕ
special b =
    from_byte 0x40 (codes " ") b
    (from_byte 0x4B (codes ".<(+") b
    (from_byte 0x50 (codes "&") b
    (from_byte 0x5C (codes "*);") b
    (from_byte 0x60 (codes "-/") b
    (from_byte 0x6B (codes ",%_>?") b
    (from_byte 0x7A (codes ":#@'=\"") b None))))))

abbrev pub ebcdic_glyph : ℕ → Option ℕ
ebcdic_glyph b = letter b (special b)

pub ebcdic_printable : GlyphLaw ebcdic_glyph
ebcdic_printable = law_of ebcdic_glyph refl
