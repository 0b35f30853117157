-- The meaning of ASCII, and the order of its characters. Assumes nothing.
use Rattle.std.specs.Prelude.{ℕ, ◌+◌, ◌-◌, cond, List, [], ◌∷◌, ◌++◌, Some, None, ◌==◌, refl}
use Rattle.code.specs.Meaning.{CodeMeaning, CodeLaws, within}
use Rattle.code.specs.Laws.{laws_of}
use Rattle.code.specs.Order.{Order, from_to, in_order}

-- Consecutive numbers from 0: the end of line, the special characters in byte order, a to z, A to Z, 0 to 9.
abbrev pub ascii_rank : ℕ → ℕ
ascii_rank b =
    -- the end of line
    cond (b == 0x0A) 0
    -- the special characters: 1 to 33
    (cond (within 0x20 0x2F b) (b - 31)
    (cond (within 0x3A 0x40 b) (b - 41)
    (cond (within 0x5B 0x60 b) (b - 67)
    (cond (within 0x7B 0x7E b) (b - 93)
    -- a to z: 34 to 59
    (cond (within 0x61 0x7A b) (b - 63)
    -- A to Z: 60 to 85
    (cond (within 0x41 0x5A b) (b - 5)
    -- 0 to 9: 86 to 95
    (b + 38)))))))

abbrev pub ascii : CodeMeaning
ascii = record {
  number = 1;
  character = within 0x20 0x7E;
  named = λ c. c;
  end_of_line = 0x0A;
  segment_mark = λ n. 0x80 + n;
  mark_number = λ b. cond (within 0x81 0xBE b) (Some (b - 0x80)) None;
  creation_mark = 0xC0;
  rank = ascii_rank;
  -- A to Z
  lower = λ b. cond (within 0x41 0x5A b) (b + 32) b;
}

pub ascii_laws : CodeLaws ascii
ascii_laws = laws_of ascii refl

-- the ranked bytes, from the lowest to the highest
abbrev pub ascii_order : List ℕ
ascii_order =
    -- the end of line
    0x0A ∷ []
    -- the special characters, in byte order
    ++ from_to 0x20 0x2F ++ from_to 0x3A 0x40 ++ from_to 0x5B 0x60 ++ from_to 0x7B 0x7E
    -- a to z, A to Z, 0 to 9
    ++ from_to 0x61 0x7A ++ from_to 0x41 0x5A ++ from_to 0x30 0x39

abbrev pub ascii_ranks : List ℕ
ascii_ranks = from_to 0 95

-- The bytes that ASCII ranks are these, in this order, and their ranks are 0 to 95.
abbrev pub AsciiOrder : Type 0
AsciiOrder = Order ascii ascii_order ascii_ranks

pub ascii_ordered : AsciiOrder
ascii_ordered = in_order ascii ascii_order ascii_ranks refl refl refl
