-- Bytes in hex, run by run.
use Rattle.std.proofs.Common.{◌≡◌, ℕ, zero, suc, ◌*◌, ◌/◌, ◌%◌, ◌<◌, List, [], ◌∷◌, ◌++◌, take, drop, get_or, refl, ap, sym, ◌∙◌, append_assoc, arith}
use Rattle.std.proofs.lemmas.Bool.Decides.{nat_tests}
use Rattle.std.proofs.lemmas.Grind.{flat_map-append}
use Rattle.std.proofs.lemmas.List.{drop-drop, take-append-drop}
use Rattle.std.proofs.lemmas.Str.{IsAscii-append, IsUtf8-from_ascii}
use Rattle.std.proofs.lemmas.Str.Ascii.{IsAscii-nil, IsAscii-cons}
use Rattle.std.specs.List.{flat_map}
use Rattle.std.specs.Simd.{first_chunks}
use Rattle.std.specs.Str.{IsAscii, IsUtf8}
use Rattle.hex_text.specs.Hex.{digit_of, hexed_byte, hexed}

digit_ascii : (d : ℕ) → d < 16 → digit_of d < 128
digit_ascii d h = grind (arith, nat_tests)

byte_ascii : (b : ℕ) → b < 256 → IsAscii (hexed_byte b)
byte_ascii b h = IsAscii-cons (digit_of (b / 16)) (digit_of (b % 16) ∷ []) (digit_ascii (b / 16) (omega arith)) (IsAscii-cons (digit_of (b % 16)) [] (digit_ascii (b % 16) (omega arith)) IsAscii-nil)

hexed_ascii : (bytes : List ℕ) → ((i : ℕ) → get_or bytes i 0 < 256) → IsAscii (hexed bytes)
hexed_ascii [] h = IsAscii-nil
hexed_ascii (b ∷ bs) h = IsAscii-append (hexed_byte b) (hexed bs) (byte_ascii b (h 0)) (hexed_ascii bs (λ i. h (suc i)))

-- bytes in hex are text
pub hexed_text : (bytes : List ℕ) → ((i : ℕ) → get_or bytes i 0 < 256) → IsUtf8 (hexed bytes)
hexed_text bytes h = IsUtf8-from_ascii (hexed bytes) (hexed_ascii bytes h)

-- the runs and what is left over, one after another
pub by_runs : (k : ℕ) (bytes : List ℕ) → flat_map hexed (first_chunks 32 k bytes) ++ hexed (drop (k * 32) bytes) ≡ hexed bytes
by_runs zero bytes = refl
by_runs (suc k) bytes =
    let behind = drop 32 bytes in
    let further : drop (k * 32) behind ≡ drop (suc k * 32) bytes = drop-drop (k * 32) 32 bytes ∙ ap (λ n. drop n bytes) (omega arith) in
    append_assoc (hexed (take 32 bytes)) _ _
    ∙ ap (λ t. hexed (take 32 bytes) ++ t) (ap (λ r. flat_map hexed (first_chunks 32 k behind) ++ hexed r) (sym further) ∙ by_runs k behind)
    ∙ sym (flat_map-append hexed_byte (take 32 bytes) behind)
    ∙ ap hexed (take-append-drop 32 bytes)
