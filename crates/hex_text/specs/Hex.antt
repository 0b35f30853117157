-- Bytes as text in hex, two digits to a byte. Assumes nothing.
use Rattle.std.specs.Prelude.{◌≡◌, ◌↔◌, ℕ, ◌+◌, ◌-◌, ◌*◌, ◌/◌, ◌%◌, ◌<◌, cond, ◌&&◌, List, [], ◌∷◌, length, Some, None, Option, nat_le, nat_lt, slice_index}
use Rattle.std.specs.List.{flat_map, AllByRecursion}

-- Reading.

-- the value of a digit, 0 to 9 and a to f
abbrev pub digit_value : ℕ → Option ℕ
digit_value c = cond (nat_le 48 c && nat_le c 57) (Some (c - 48)) (cond (nat_le 97 c && nat_le c 102) (Some (c - 87)) None)

abbrev pub two_digits : Option ℕ → Option ℕ → Option ℕ
two_digits (Some high) (Some low) = Some (high * 16 + low)
two_digits (Some high) None = None
two_digits None low = None

-- a byte before bytes, where both are there
abbrev pub before : Option ℕ → Option (List ℕ) → Option (List ℕ)
before (Some byte) (Some bytes) = Some (byte ∷ bytes)
before (Some byte) None = None
before None bytes = None

-- the bytes of a text in hex; None where it is no such text
abbrev pub unhexed : List ℕ → Option (List ℕ)
unhexed [] = Some []
unhexed (c ∷ []) = None
unhexed (high ∷ low ∷ rest) = before (two_digits (digit_value high) (digit_value low)) (unhexed rest)

-- the byte that the digits at 2 i and 2 i + 1 are
abbrev pub byte_at : List ℕ → ℕ → Option ℕ
byte_at text i = two_digits (digit_value (slice_index text (2 * i))) (digit_value (slice_index text (2 * i + 1)))

-- the text is these bytes in hex
pub record InHex (text bytes : List ℕ) : Type 0 where
  pub long : length text ≡ 2 * length bytes
  pub each_byte : (i : ℕ) → i < length bytes → byte_at text i ≡ Some (slice_index bytes i)

-- Exactly the texts in hex are read, and as the bytes that they are.
abbrev pub ReadsInHex : Type 0
ReadsInHex = (text bytes : List ℕ) → (unhexed text ≡ Some bytes) ↔ InHex text bytes

-- Writing.

-- the digit of a value below 16
abbrev pub digit_of : ℕ → ℕ
digit_of d = cond (nat_lt d 10) (48 + d) (87 + d)

abbrev pub hexed_byte : ℕ → List ℕ
hexed_byte b = digit_of (b / 16) ∷ digit_of (b % 16) ∷ []

abbrev pub hexed : List ℕ → List ℕ
hexed bytes = flat_map hexed_byte bytes

-- What is written reads back.
abbrev pub ReadsBack : Type 0
ReadsBack = (bytes : List ℕ) → AllByRecursion (λ b. b < 256) bytes → unhexed (hexed bytes) ≡ Some bytes
