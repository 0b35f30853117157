-- Exactly the texts in hex are read, and as the bytes that they are.
use Rattle.std.proofs.Common.{◌≡◌, ℕ, zero, suc, ◌+◌, ◌*◌, ◌<◌, List, [], ◌∷◌, length, get_or, Some, None, Option, refl, sym, ◌∙◌, arith}
use Rattle.hex_text.specs.Hex.{digit_value, two_digits, before, unhexed, byte_at, InHex, ReadsInHex}

-- a pair further on
byte_after : (high low : ℕ) (rest : List ℕ) (i : ℕ) → byte_at (high ∷ low ∷ rest) (suc i) ≡ byte_at rest i
byte_after high low rest i =
    let first : 2 * suc i ≡ suc (suc (2 * i)) = omega arith in
    let second : suc (suc (2 * i)) + 1 ≡ suc (suc (2 * i + 1)) = omega arith in
    rw (first, second) refl

-- one pair and its byte before a text in hex
in_hex_more : (high low byte : ℕ) (rest bytes : List ℕ) → two_digits (digit_value high) (digit_value low) ≡ Some byte → InHex rest bytes → InHex (high ∷ low ∷ rest) (byte ∷ bytes)
in_hex_more high low byte rest bytes is h = record { long = omega (arith, h.long); each_byte = each }
  where
    each : (i : ℕ) → i < length (byte ∷ bytes) → byte_at (high ∷ low ∷ rest) i ≡ Some (get_or (byte ∷ bytes) i 0)
    each zero l = is
    each (suc i) l = byte_after high low rest i ∙ h.each_byte i (omega (arith, l))

in_hex_less : (high low byte : ℕ) (rest bytes : List ℕ) → InHex (high ∷ low ∷ rest) (byte ∷ bytes) → InHex rest bytes
in_hex_less high low byte rest bytes h = record {
  long = omega (arith, h.long);
  each_byte = λ i l. sym (byte_after high low rest i) ∙ h.each_byte (suc i) (omega (arith, l));
}

read : (text bytes : List ℕ) → unhexed text ≡ Some bytes → InHex text bytes
read [] [] e = record { long = refl; each_byte = λ i l. absurd (omega (arith, l)) }
read [] (b ∷ bs) e = cc
read (c ∷ []) bytes e = cc
read (high ∷ low ∷ rest) bytes e = go _ _ bytes refl (read rest) e
  where
    go : (o : Option ℕ) (more : Option (List ℕ)) (bytes : List ℕ) → two_digits (digit_value high) (digit_value low) ≡ o → ((bs : List ℕ) → more ≡ Some bs → InHex rest bs) → before o more ≡ Some bytes → InHex (high ∷ low ∷ rest) bytes
    go (Some byte) (Some more) [] is in_hex e = cc
    go (Some byte) (Some more) (b ∷ bs) is in_hex e = in_hex_more high low b rest bs (is ∙ cc) (in_hex bs cc)
    go (Some byte) None bytes is in_hex e = cc
    go None more bytes is in_hex e = cc

reads_back : (text bytes : List ℕ) → InHex text bytes → unhexed text ≡ Some bytes
reads_back [] [] h = refl
reads_back [] (b ∷ bs) h = absurd (omega (arith, h.long))
reads_back (c ∷ []) bytes h = absurd (omega (arith, h.long))
reads_back (high ∷ low ∷ rest) [] h = absurd (omega (arith, h.long))
reads_back (high ∷ low ∷ rest) (b ∷ bs) h =
    rw (h.each_byte 0 (omega arith), reads_back rest bs (in_hex_less high low b rest bs h)) refl

pub reads_in_hex : ReadsInHex
reads_in_hex text bytes = (read text bytes, reads_back text bytes)
