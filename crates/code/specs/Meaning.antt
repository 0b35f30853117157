-- What a character code means, and the laws that every code keeps. Assumes nothing.
use Rattle.std.specs.Prelude.{◌≡◌, ℕ, ◌<◌, ◌≤◌, Bool, true, false, cond, ◌&&◌, ◌||◌, is_some, Some, None, Option, ◌==◌, nat_le}

-- low ≤ n ≤ high, as a test
abbrev pub within : ℕ → ℕ → ℕ → Bool
within low high n = nat_le low n && nat_le n high

-- The characters that the language names, by their Unicode numbers: the letters, the digits and # < > ; @ , + - ?
abbrev pub named_char : ℕ → Bool
named_char c =
    within 97 122 c || within 65 90 c || within 48 57 c
    || c == 35 || c == 60 || c == 62 || c == 59 || c == 64 || c == 44 || c == 43 || c == 45 || c == 63

pub record CodeMeaning : Type 0 where
  -- the code's number, in one byte
  pub number : ℕ
  -- is this byte a character?
  pub character : ℕ → Bool
  -- the byte of a named character
  pub named : ℕ → ℕ
  -- the end of line
  pub end_of_line : ℕ
  -- segment mark n, for n from 1 to 62: it stands in a body where parameter n goes
  pub segment_mark : ℕ → ℕ
  -- the number of a segment mark; None for any other byte
  pub mark_number : ℕ → Option ℕ
  -- the creation mark: it stands in a body where a created number goes
  pub creation_mark : ℕ
  -- the rank of a character or of the end of line, by which texts are compared
  pub rank : ℕ → ℕ
  -- lower case
  pub lower : ℕ → ℕ

-- The answers of a code's functions, for every argument.

-- the byte of a char that is named; None for any other char
abbrev pub byte_of : CodeMeaning → ℕ → Option ℕ
byte_of m c = cond (named_char c) (Some (m.named c)) None

-- segment mark n; None where there is no such mark
abbrev pub mark_of : CodeMeaning → ℕ → Option ℕ
mark_of m n = cond (within 1 62 n) (Some (m.segment_mark n)) None

-- the characters and the end of line are ranked, and no other byte is
abbrev pub ranked : CodeMeaning → ℕ → Bool
ranked m b = m.character b || b == m.end_of_line

abbrev pub rank_of : CodeMeaning → ℕ → Option ℕ
rank_of m b = cond (ranked m b) (Some (m.rank b)) None

-- is this byte a segment mark or the creation mark?
abbrev pub marked : CodeMeaning → ℕ → Bool
marked m b = cond (b == m.creation_mark) true (is_some (m.mark_number b))

-- what may stand in the body of a string: characters, ends of lines and marks
abbrev pub body_byte : CodeMeaning → ℕ → Bool
body_byte m b = m.character b || b == m.end_of_line || marked m b

-- The laws. A byte is a number below 256.
pub record CodeLaws (m : CodeMeaning) : Type 0 where
  -- each is a byte
  pub number_byte : m.number < 256
  pub named_byte : (c : ℕ) → named_char c ≡ true → m.named c < 256
  pub end_byte : m.end_of_line < 256
  pub mark_byte : (n : ℕ) → 1 ≤ n → n ≤ 62 → m.segment_mark n < 256
  pub creation_byte : m.creation_mark < 256
  pub lower_byte : (b : ℕ) → b < 256 → m.lower b < 256
  -- the named characters are characters, and differ
  pub named_character : (c : ℕ) → named_char c ≡ true → m.character (m.named c) ≡ true
  pub named_apart : (c d : ℕ) → named_char c ≡ true → named_char d ≡ true → m.named c ≡ m.named d → c ≡ d
  -- no mark or end of line is a character, and all these differ
  pub end_no_character : m.character m.end_of_line ≡ false
  pub end_no_mark : m.mark_number m.end_of_line ≡ None
  pub mark_no_character : (b n : ℕ) → b < 256 → m.mark_number b ≡ Some n → m.character b ≡ false
  pub creation_no_character : m.character m.creation_mark ≡ false
  pub creation_no_mark : m.mark_number m.creation_mark ≡ None
  pub creation_no_end : m.creation_mark ≡ m.end_of_line → ⊥
  -- the number of a mark is the mark's number, and marks have the numbers 1 to 62: so marks differ
  pub number_of_mark : (n : ℕ) → 1 ≤ n → n ≤ 62 → m.mark_number (m.segment_mark n) ≡ Some n
  pub mark_of_number : (b n : ℕ) → b < 256 → m.mark_number b ≡ Some n → (1 ≤ n) × (n ≤ 62) × (m.segment_mark n ≡ b)
  -- lower case keeps a character a character, and the end of line itself
  pub lower_character : (b : ℕ) → b < 256 → m.character b ≡ true → m.character (m.lower b) ≡ true
  pub lower_end : m.lower m.end_of_line ≡ m.end_of_line
  -- ranks of different ranked bytes differ, and the end of line ranks lowest
  pub rank_apart : (a b : ℕ) → a < 256 → b < 256 → ranked m a ≡ true → ranked m b ≡ true → m.rank a ≡ m.rank b → a ≡ b
  pub end_lowest : (b : ℕ) → b < 256 → m.character b ≡ true → m.rank m.end_of_line < m.rank b
