-- The meaning of EBCDIC, and the order of its characters. Assumes nothing.
use Rattle.std.specs.Prelude.{ℕ, ◌+◌, ◌-◌, Bool, cond, ◌||◌, List, ◌∷◌, Some, None, ◌==◌, nat_le, refl}
use Rattle.code.specs.Meaning.{CodeMeaning, CodeLaws, within}
use Rattle.code.specs.Laws.{laws_of}
use Rattle.code.specs.Order.{Order, from_to, in_order}

-- The byte of a named character, by its Unicode number. The letters stand in three runs, the small ones 0x40 below the capitals.
abbrev pub ebcdic_named : ℕ → ℕ
ebcdic_named c =
    -- a to i, j to r, s to z
    cond (within 97 105 c) (0x81 + (c - 97))
    (cond (within 106 114 c) (0x91 + (c - 106))
    (cond (within 115 122 c) (0xA2 + (c - 115))
    -- A to I, J to R, S to Z
    (cond (within 65 73 c) (0xC1 + (c - 65))
    (cond (within 74 82 c) (0xD1 + (c - 74))
    (cond (within 83 90 c) (0xE2 + (c - 83))
    -- 0 to 9
    (cond (within 48 57 c) (0xF0 + (c - 48))
    -- # < > ; @ , + - and, as the last one left, ?
    (cond (c == 35) 0x7B
    (cond (c == 60) 0x4C
    (cond (c == 62) 0x6E
    (cond (c == 59) 0x5E
    (cond (c == 64) 0x7C
    (cond (c == 44) 0x6B
    (cond (c == 43) 0x4E
    (cond (c == 45) 0x60
    0x6F))))))))))))))

-- A to I, J to R, S to Z
abbrev pub capital : ℕ → Bool
capital b = within 0xC1 0xC9 b || within 0xD1 0xD9 b || within 0xE2 0xE9 b

abbrev pub ebcdic : CodeMeaning
ebcdic = record {
  number = 2;
  character = within 0x40 0xF9;
  named = ebcdic_named;
  end_of_line = 0x15;
  -- bytes 1 to 63, save the end of line
  segment_mark = λ n. cond (nat_le n 20) n (n + 1);
  mark_number = λ b. cond (within 0x01 0x14 b) (Some b) (cond (within 0x16 0x3F b) (Some (b - 1)) None);
  creation_mark = 0xFA;
  rank = λ b. b;
  lower = λ b. cond (capital b) (b - 0x40) b;
}

pub ebcdic_laws : CodeLaws ebcdic
ebcdic_laws = laws_of ebcdic refl

-- the ranked bytes, from the lowest to the highest: the end of line, then the characters in byte order
abbrev pub ebcdic_order : List ℕ
ebcdic_order = 0x15 ∷ from_to 0x40 0xF9

-- The bytes that EBCDIC ranks are these, in this order, and each is its own rank.
abbrev pub EbcdicOrder : Type 0
EbcdicOrder = Order ebcdic ebcdic_order ebcdic_order

pub ebcdic_ordered : EbcdicOrder
ebcdic_ordered = in_order ebcdic ebcdic_order ebcdic_order refl refl refl
