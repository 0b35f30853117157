-- A text written piece by piece.
use Rattle.std.proofs.Common.{◌≡◌, ℕ, ◌+◌, ◌<◌, ◌≤◌, List, ◌++◌, length, take, drop, get_or, sym, ◌∙◌, ap, arith}
use Rattle.std.specs.List.{flat_map}
use Rattle.std.proofs.lemmas.List.{append_assoc, length-append, length-take-le, drop_more}

-- what is written and what is left are the whole
pub record Written (out rest whole : List ℕ) (at : ℕ) : Type 0 where
  pub within : at ≤ length out
  pub size : length out ≡ length whole
  pub so_far : take at out ++ rest ≡ whole

-- what is left in bytes
abbrev bytes_left : {out rest whole : List ℕ} {at : ℕ} → Written out rest whole at → at + length rest ≡ length out
bytes_left {out} {rest} {whole} {at} w =
    ap (λ n. n + length rest) (sym (length-take-le at out w.within))
    ∙ sym (length-append (take at out) rest)
    ∙ ap length w.so_far
    ∙ sym w.size

pub room : {out rest whole : List ℕ} {at : ℕ} (piece further : List ℕ) → Written out rest whole at → rest ≡ piece ++ further → at + length piece ≤ length out
room {out} {rest} {whole} {at} piece further w cut =
    let left = bytes_left w in
    let parts = ap length cut ∙ length-append piece further in
    omega (arith, left, parts)

pub more : {out rest whole : List ℕ} {at : ℕ} (piece further after : List ℕ) (end : ℕ) → Written out rest whole at → rest ≡ piece ++ further → end ≡ at + length piece → take end after ≡ take at out ++ piece → length after ≡ length out → Written after further whole end
more {out} {rest} {whole} {at} piece further after end w cut ends written same =
    let within = room piece further w cut in
    record {
      within = omega (arith, within, ends, same);
      size = same ∙ w.size;
      so_far = ap (λ t. t ++ further) written ∙ append_assoc (take at out) piece further ∙ ap (λ t. take at out ++ t) (sym cut) ∙ w.so_far;
    }

-- the pieces of a list, one on
pub flat_map_cut : {X : Type 0} (f : X → List ℕ) (xs : List X) (i : ℕ) (d : X) → i < length xs → flat_map f (drop i xs) ≡ f (get_or xs i d) ++ flat_map f (drop (i + 1) xs)
flat_map_cut f xs i d lt = ap (flat_map f) (drop_more xs i d lt)
