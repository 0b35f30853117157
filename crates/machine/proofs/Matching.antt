-- The match of `<`: brackets in balance. Assumes nothing.
use Rattle.std.proofs.Common.{◌≡◌, ℕ, zero, suc, ◌-◌, Bool, true, false, eqb, [], ◌∷◌, ◌++◌, length, take, drop, Some, None, Option, sym, refl, ap, ◌∙◌, subst, arith}
use Rattle.std.specs.Option.{option_map}
use Rattle.std.proofs.lemmas.List.{append_assoc, take-append-drop, length-drop, length-take}
use Rattle.std.proofs.lemmas.Bool.{ne_eqb, eqb-true, eqb-false}
use Rattle.code.specs.Meaning.{CodeLaws}
use Rattle.machine.specs.Texts.{Text, Code}
use Rattle.machine.specs.Scan.{match_of}
use Rattle.machine.specs.Laws.{Balanced, no_text, one_byte, escaped, bracketed, in_a_row, ClosedAt, BracketsMatchInBalance}
use Rattle.machine.proofs.Common.{never, itself}
use Rattle.machine.proofs.Ruling.{apart}

-- A TEXT IN BALANCE IS PASSED

-- a place behind the text u
abbrev past : Text → Option ℕ → Option ℕ
past [] o = o
past (b ∷ u) o = option_map suc (past u o)

past_append : (t u : Text) (o : Option ℕ) → past (t ++ u) o ≡ past t (past u o)
past_append [] u o = refl
past_append (b ∷ t) u o = ap (option_map suc) (past_append t u o)

past_length : (t : Text) → past t (Some 0) ≡ Some (length t)
past_length [] = refl
past_length (b ∷ t) = ap (option_map suc) (past_length t)

module _ (code : Code) (laws : CodeLaws code) where
  -- what the search does at each of `@`, `<` and `>`
  at_escape : (d b : ℕ) (t : Text) → match_of code false d (code.named 64 ∷ b ∷ t) ≡ option_map suc (option_map suc (match_of code false d t))
  at_escape d b t = rw (itself (code.named 64))

  at_open : (d : ℕ) (t : Text) → match_of code false d (code.named 60 ∷ t) ≡ option_map suc (match_of code false (suc d) t)
  at_open d t = rw (apart code laws 60 64 refl refl refl, itself (code.named 60))

  at_last_close : (t : Text) → match_of code false 0 (code.named 62 ∷ t) ≡ Some 0
  at_last_close t = rw (apart code laws 62 64 refl refl refl, apart code laws 62 60 refl refl refl, itself (code.named 62))

  at_close : (d : ℕ) (t : Text) → match_of code false (suc d) (code.named 62 ∷ t) ≡ option_map suc (match_of code false d t)
  at_close d t =
      let lower : suc d - 1 ≡ d = omega arith in
      rw (apart code laws 62 64 refl refl refl, apart code laws 62 60 refl refl refl, itself (code.named 62), lower)

  passed : {u : Text} → Balanced code u → (d : ℕ) (rest : Text) → match_of code false d (u ++ rest) ≡ past u (match_of code false d rest)
  passed no_text d rest = refl
  passed (one_byte b no_open no_close no_escape) d rest =
      rw (ne_eqb b (code.named 64) no_escape, ne_eqb b (code.named 60) no_open, ne_eqb b (code.named 62) no_close)
  passed (escaped b) d rest = at_escape d b rest
  passed (bracketed {t} h) d rest =
      at_open d _
      ∙ ap (option_map suc)
      (ap (match_of code false (suc d)) (append_assoc t (code.named 62 ∷ []) rest)
      ∙ passed h (suc d) (code.named 62 ∷ rest) ∙ ap (past t) (at_close d rest) ∙ sym (past_append t (code.named 62 ∷ []) _))
  passed (in_a_row {t} {u} h k) d rest =
      rw (append_assoc t u rest, passed h d (u ++ rest), passed k d rest, past_append t u (match_of code false d rest))

  closed : (t : Text) (k : ℕ) → ClosedAt code t k → match_of code false 0 t ≡ Some k
  closed t k h =
      let rest = drop (suc k) t in
      let parts : t ≡ take k t ++ code.named 62 ∷ rest = sym (take-append-drop k t) ∙ ap (λ r. take k t ++ r) h.closes in
      let place : length (take k t) ≡ k = omega (arith, length-take k t, length-drop k t, ap length h.closes) in
      ap (match_of code false 0) parts ∙ passed h.balanced 0 (code.named 62 ∷ rest) ∙ ap (past (take k t)) (at_last_close rest)
      ∙ past_length (take k t) ∙ ap Some place

-- THE MATCH STANDS BEHIND A TEXT IN BALANCE

-- texts in balance, with d times `>` between them
abbrev RowOf : Code → ℕ → Text → Type 0
RowOf code zero u = Balanced code u
RowOf code (suc d) u = (v : Text) × (w : Text) × Balanced code v × RowOf code d w × (u ≡ v ++ code.named 62 ∷ w)

-- a text in balance before them
before : (code : Code) (d : ℕ) {v : Text} → Balanced code v → (u : Text) → RowOf code d u → RowOf code d (v ++ u)
before code zero h u r = in_a_row h r
before code (suc d) {v} h u r = (v ++ r.0, r.1, in_a_row h r.2, r.3, ap (λ x. v ++ x) r.4 ∙ sym (append_assoc v r.0 _))

-- `>` stands at place k of t, and before it d others, with texts in balance between them
record Ends (code : Code) (d : ℕ) (t : Text) (k : ℕ) : Type 0 where
  row : RowOf code d (take k t)
  ends : drop k t ≡ code.named 62 ∷ drop (suc k) t

-- the same, with the `@` that protects the first byte
abbrev Found : Code → Bool → ℕ → Text → ℕ → Type 0
Found code false d t k = Ends code d t k
Found code true d t k = Ends code d (code.named 64 ∷ t) (suc k)

-- a place behind a first byte
by_suc : (P : ℕ → Type 0) (o : Option ℕ) (k : ℕ) → option_map suc o ≡ Some k → ((n : ℕ) → o ≡ Some n → P (suc n)) → P k
by_suc P None k e h = absurd (never (cc))
by_suc P (Some n) k e h = let same : suc n ≡ k = cc in subst P same (h n refl)

-- one byte more, of each kind
module _ (code : Code) (d : ℕ) where
  behind_byte : (b : ℕ) → Balanced code (b ∷ []) → (t : Text) (n : ℕ) → Ends code d t n → Ends code d (b ∷ t) (suc n)
  behind_byte b h t n e = record { row = before code d h (take n t) e.row; ends = e.ends }

  behind_escape : (c : ℕ) (t : Text) (n : ℕ) → Ends code d t n → Ends code d (code.named 64 ∷ c ∷ t) (suc (suc n))
  behind_escape c t n e = record { row = before code d (escaped c) (take n t) e.row; ends = e.ends }

  behind_open : (t : Text) (n : ℕ) → Ends code (suc d) t n → Ends code d (code.named 60 ∷ t) (suc n)
  behind_open t n e =
      let r = e.row in
      record {
        row =
            subst (RowOf code d) (ap (λ x. code.named 60 ∷ x) (append_assoc r.0 _ r.1 ∙ sym r.4))
            (before code d (bracketed r.2) r.1 r.3);
        ends = e.ends;
      }

  behind_close : (t : Text) (n : ℕ) → Ends code d t n → Ends code (suc d) (code.named 62 ∷ t) (suc n)
  behind_close t n e = record { row = ([], take n t, no_text, e.row, refl); ends = e.ends }

  headed : {b c : ℕ} → eqb b c ≡ true → (t : Text) (k : ℕ) → Ends code d (c ∷ t) k → Ends code d (b ∷ t) k
  headed {b} {c} h t k e = subst (λ x. Ends code d (x ∷ t) k) (sym (eqb-true b c h)) e

module _ (code : Code) (b : ℕ) (t : Text)
    (found-protected : (d k : ℕ) → match_of code true d t ≡ Some k → Ends code d (code.named 64 ∷ t) (suc k))
    (found-behind : (d k : ℕ) → match_of code false d t ≡ Some k → Ends code d t k) where
  found_close : (d k : ℕ) → eqb b (code.named 64) ≡ false → eqb b (code.named 60) ≡ false → eqb b (code.named 62) ≡ true →
      match_of code false d (b ∷ t) ≡ Some k → Ends code d (b ∷ t) k
  found_close zero k hx hy hz e =
      let here : ◌≡◌ {A = Option ℕ} (Some 0) (Some k) = rw (hx, hy, hz) at e in
      let first : 0 ≡ k = cc in
      headed code 0 hz t k (subst (Ends code 0 (code.named 62 ∷ t)) first (record { row = no_text; ends = refl }))
  found_close (suc d) k hx hy hz e =
      let lower : suc d - 1 ≡ d = omega arith in
      by_suc (Ends code (suc d) (b ∷ t)) (match_of code false d t) k (rw (hx, hy, hz, lower) at e)
      (λ n f. headed code (suc d) hz t (suc n) (behind_close code d t n (found-behind d n f)))

  found_byte : (d k : ℕ) → match_of code false d (b ∷ t) ≡ Some k → Ends code d (b ∷ t) k
  found_byte d k e = go (eqb b (code.named 64)) (eqb b (code.named 60)) (eqb b (code.named 62)) refl refl refl
    where
      go : (x y z : Bool) → eqb b (code.named 64) ≡ x → eqb b (code.named 60) ≡ y → eqb b (code.named 62) ≡ z → Ends code d (b ∷ t) k
      go true y z hx hy hz =
          by_suc (Ends code d (b ∷ t)) (match_of code true d t) k (rw hx at e) (λ n f. headed code d hx t (suc n) (found-protected d n f))
      go false true z hx hy hz =
          by_suc (Ends code d (b ∷ t)) (match_of code false (suc d) t) k (rw (hx, hy) at e)
          (λ n f. headed code d hy t (suc n) (behind_open code d t n (found-behind (suc d) n f)))
      go false false true hx hy hz = found_close d k hx hy hz e
      go false false false hx hy hz =
          by_suc (Ends code d (b ∷ t)) (match_of code false d t) k (rw (hx, hy, hz) at e)
          (λ n f. behind_byte code d b (one_byte b (eqb-false _ _ hy) (eqb-false _ _ hz) (eqb-false _ _ hx)) t n (found-behind d n f))

found : (code : Code) (protected : Bool) (t : Text) (d k : ℕ) → match_of code protected d t ≡ Some k → Found code protected d t k
found code true [] d k e = absurd (never (cc))
found code false [] d k e = absurd (never (cc))
found code true (c ∷ t) d k e =
    by_suc (λ n. Ends code d (code.named 64 ∷ c ∷ t) (suc n)) (match_of code false d t) k e
    (λ n f. behind_escape code d c t n (found code false t d n f))
found code false (b ∷ t) d k e = found_byte code b t (found code true t) (found code false t) d k e

pub in_balance : BracketsMatchInBalance
in_balance code laws t k =
    (λ e. let f = found code false t 0 k e in record { balanced = f.row; closes = f.ends }, closed code laws t k)
