-- The class of the bytes of a text, as it grows by one byte.
use Rattle.std.proofs.Common.{◌≡◌, ◌≢◌, ℕ, ◌+◌, ◌<◌, ◌≤◌, false, Bool, not, ◌&&◌, List, length, take, get_or, set, replicate, below_more, length-set, get_or-set_same, get_or-set_other, ap, ◌∙◌, arith}
use Rattle.std.proofs.lemmas.List.{take_all, length-replicate, get_or-replicate}
use Rattle.std.proofs.lemmas.List.FromFn.{fill_by_all, length-map-range_with_len, get_or-map-range_with_len}
use Rattle.code.specs.Meaning.{ranked}
use Rattle.machine.specs.Texts.{Text, Code}
use Rattle.machine.specs.Classes.{has_byte, the_bytes, all_but}
use Rattle.machine.specs.Dictionary.{class_of}

-- the flags are those of the first i bytes of a text
pub record FlagsOf (t : Text) (flags : List Bool) (i : ℕ) : Type 0 where
  pub size : length flags ≡ 256
  pub flag : (k : ℕ) → k < 256 → get_or flags k false ≡ has_byte (take i t) k

pub flags_none : (t : Text) → FlagsOf t (replicate 256 false) 0
flags_none t = record { size = length-replicate 256 false; flag = λ k l. get_or-replicate 256 k false false l }

pub flags_all : {t : Text} {flags : List Bool} {i : ℕ} → FlagsOf t flags i → length t ≤ i → flags ≡ class_of (the_bytes t)
flags_all {t} {flags} {i} h done =
    fill_by_all (the_bytes t) flags 256 false h.size (λ k l. h.flag k l ∙ ap (λ u. has_byte u k) (take_all i t done))

-- the flags below i are of the other ranked bytes, and those from i on of the bytes of a text
pub record OthersBelow (code : Code) (t : Text) (flags : List Bool) (i : ℕ) : Type 0 where
  pub size : length flags ≡ 256
  pub below : (k : ℕ) → k < i → get_or flags k false ≡ all_but code t k
  pub above : (k : ℕ) → i ≤ k → k < 256 → get_or flags k false ≡ the_bytes t k

pub others_none : (code : Code) {t : Text} {flags : List Bool} → flags ≡ class_of (the_bytes t) → OthersBelow code t flags 0
others_none code {t} {flags} e = record {
  size = ap length e ∙ length-map-range_with_len (the_bytes t) 0 256;
  below = λ k l. absurd (omega arith);
  above = λ k l h. ap (λ f. get_or f k false) e ∙ get_or-map-range_with_len (the_bytes t) 0 256 k k false h (omega arith);
}

pub others_more : {code : Code} {t : Text} {flags : List Bool} {i : ℕ} → OthersBelow code t flags i → i < 256 → (flag : Bool)
    → flag ≡ (ranked code i && not (get_or flags i false)) → OthersBelow code t (set flags i flag) (i + 1)
others_more {code} {t} {flags} {i} h more flag e =
    let within : i < length flags = omega (arith, h.size) in
    record {
      size = length-set flags i flag ∙ h.size;
      below = below_more (λ k. get_or (set flags i flag) k false ≡ all_but code t k) i
          (λ k l. let other : k ≢ i = omega arith in rw get_or-set_other (h.below k l))
          (rw get_or-set_same (e ∙ ap (λ f. ranked code i && not f) (h.above i (omega arith) more)));
      above = λ k l b. let other : k ≢ i = omega arith in rw get_or-set_other (h.above k (omega arith) b);
    }

pub others_all : {code : Code} {t : Text} {flags : List Bool} {i : ℕ} → OthersBelow code t flags i → 256 ≤ i → flags ≡ class_of (all_but code t)
others_all {code} {t} {flags} {i} h done = fill_by_all (all_but code t) flags 256 false h.size (λ k l. h.below k (omega arith))
