-- The search of a match, byte by byte. Assumes nothing.
use Rattle.std.proofs.Common.{◌≡◌, ◌≢◌, ℕ, zero, suc, ◌+◌, ◌-◌, ◌<◌, Bool, true, false, ◌∷◌, length, get_or, drop, Some, None, Option, refl, ap, ◌∙◌, arith, add-one}
use Rattle.std.specs.Option.{option_map}
use Rattle.std.proofs.lemmas.Bool.{ne_eqb, eq-eqb}
use Rattle.std.proofs.lemmas.List.{at_drop_more}
use Rattle.machine.specs.Texts.{Text, Code}
use Rattle.machine.specs.Scan.{match_of}

-- a place counted from n on
abbrev pub from : ℕ → Option ℕ → Option ℕ
from n o = option_map (λ k. n + k) o

pub from_suc : (n : ℕ) (o : Option ℕ) → from n (option_map suc o) ≡ from (n + 1) o
from_suc n None = refl
from_suc n (Some k) = ap Some (omega arith)

module _ (code : Code) (at : ℕ) (b d : ℕ) (rest : Text) where
  abbrev Turn : Bool → ℕ → Bool → ℕ → Type 0
  Turn p depth p' depth' = from at (match_of code p depth (b ∷ rest)) ≡ from (at + 1) (match_of code p' depth' rest)

  pub turn_protected : Turn true d false d
  turn_protected = from_suc at (match_of code false d rest)

  pub turn_escape : b ≡ code.named 64 → Turn false d true d
  turn_escape e = rw (eq-eqb b _ e) (from_suc at (match_of code true d rest))

  pub turn_open : b ≢ code.named 64 → b ≡ code.named 60 → Turn false d false (d + 1)
  turn_open h e = rw (ne_eqb b _ h, eq-eqb b _ e, add-one d) (from_suc at (match_of code false (suc d) rest))

  pub turn_other : b ≢ code.named 64 → b ≢ code.named 60 → b ≢ code.named 62 → Turn false d false d
  turn_other h k m = rw (ne_eqb b _ h, ne_eqb b _ k, ne_eqb b _ m) (from_suc at (match_of code false d rest))

  pub ends_here : b ≢ code.named 64 → b ≢ code.named 60 → b ≡ code.named 62 → Some at ≡ from at (match_of code false 0 (b ∷ rest))
  ends_here h k e = rw (ne_eqb b _ h, ne_eqb b _ k, eq-eqb b _ e) (ap Some (omega arith))

pub turn_close : (code : Code) (at b d : ℕ) (rest : Text) → b ≢ code.named 64 → b ≢ code.named 60 → b ≡ code.named 62 → d ≢ 0 →
    Turn code at b d rest false d false (d - 1)
turn_close code at b zero rest h k e l = absurd (l refl)
turn_close code at b (suc d) rest h k e l =
    let lower : suc d - 1 ≡ d = omega arith in
    rw (ne_eqb b _ h, ne_eqb b _ k, eq-eqb b _ e, lower) (from_suc at (match_of code false d rest))

-- one byte on: p and d are what stood there, p' and d' what stands behind it
pub stepped : (code : Code) (text : Text) (at : ℕ) (p q p' p'' : Bool) (d d' d'' : ℕ) → at < length text → match_of code false 0 text ≡ from at (match_of code p d (drop at text)) → p ≡ q →
    Turn code at (get_or text at 0) d (drop (at + 1) text) q d p' d' → p'' ≡ p' → d'' ≡ d' → match_of code false 0 text ≡ from (at + 1) (match_of code p'' d'' (drop (at + 1) text))
stepped code text at p q p' p'' d d' d'' h e f t u v =
    rw (u, v) (e ∙ ap (λ x. from at (match_of code x d (drop at text))) f ∙ at_drop_more (λ r. from at (match_of code q d r)) text at 0 h ∙ t)
