-- Marking from left to right: what is marked of a text so far, and what is left of it.
use Rattle.std.proofs.Common.{◌≡◌, ℕ, suc, zero, ◌+◌, ◌-◌, ◌<◌, ◌≤◌, true, false, List, [], ◌∷◌, ◌++◌, length, take, drop, set, get_or, refl, sym, ap, ◌∙◌, arith, append_assoc, length-set, length-drop}
use Rattle.std.proofs.lemmas.List.{drop_more, drop-drop, drop-set-lt, take_more_set}
use Rattle.machine.specs.Texts.{begins}
use Rattle.machine.specs.Strings.{marked_from, matches_from}
use Rattle.area.proofs.Found.{begins_fits}

-- the bytes of a match that are still to be passed
marked_past : (p : List ℕ) (m k : ℕ) (t : List ℕ) → marked_from p m k t ≡ marked_from p m 0 (drop k t)
marked_past p m zero t = refl
marked_past p m (suc k) [] = refl
marked_past p m (suc k) (b ∷ bs) = marked_past p m k bs

matches_past : (p : List ℕ) (k : ℕ) (t : List ℕ) → matches_from p k t ≡ matches_from p 0 (drop k t)
matches_past p zero t = refl
matches_past p (suc k) [] = refl
matches_past p (suc k) (b ∷ bs) = matches_past p k bs

-- what is left begins with a byte, and behind a match goes on past it
past_match : (p : List ℕ) (t : List ℕ) (read : ℕ) → 0 < length p → drop (length p - 1) (drop (read + 1) t) ≡ drop (read + length p) t
past_match p t read some =
    let there : read + 1 + (length p - 1) ≡ read + length p = omega arith in
    drop-drop (length p - 1) (read + 1) t ∙ ap (λ k. drop k t) there

marked_match : (p : List ℕ) (m : ℕ) (t : List ℕ) (read : ℕ) → 0 < length p → read < length t → begins p (drop read t) ≡ true
    → marked_from p m 0 (drop read t) ≡ m ∷ marked_from p m 0 (drop (read + length p) t)
marked_match p m t read some h here =
    let split : drop read t ≡ get_or t read 0 ∷ drop (read + 1) t = drop_more t read 0 h in
    let found : begins p (get_or t read 0 ∷ drop (read + 1) t) ≡ true = ap (begins p) (sym split) ∙ here in
    rw (split, found, marked_past p m (length p - 1) (drop (read + 1) t), past_match p t read some) refl

marked_other : (p : List ℕ) (m : ℕ) (t : List ℕ) (read : ℕ) → read < length t → begins p (drop read t) ≡ false
    → marked_from p m 0 (drop read t) ≡ get_or t read 0 ∷ marked_from p m 0 (drop (read + 1) t)
marked_other p m t read h here =
    let split : drop read t ≡ get_or t read 0 ∷ drop (read + 1) t = drop_more t read 0 h in
    let other : begins p (get_or t read 0 ∷ drop (read + 1) t) ≡ false = ap (begins p) (sym split) ∙ here in
    rw (split, other) refl

matches_match : (p : List ℕ) (t : List ℕ) (read : ℕ) → 0 < length p → read < length t → begins p (drop read t) ≡ true
    → matches_from p 0 (drop read t) ≡ suc (matches_from p 0 (drop (read + length p) t))
matches_match p t read some h here =
    let split : drop read t ≡ get_or t read 0 ∷ drop (read + 1) t = drop_more t read 0 h in
    let found : begins p (get_or t read 0 ∷ drop (read + 1) t) ≡ true = ap (begins p) (sym split) ∙ here in
    rw (split, found, matches_past p (length p - 1) (drop (read + 1) t), past_match p t read some) refl

matches_other : (p : List ℕ) (t : List ℕ) (read : ℕ) → read < length t → begins p (drop read t) ≡ false
    → matches_from p 0 (drop read t) ≡ matches_from p 0 (drop (read + 1) t)
matches_other p t read h here =
    let split : drop read t ≡ get_or t read 0 ∷ drop (read + 1) t = drop_more t read 0 h in
    let other : begins p (get_or t read 0 ∷ drop (read + 1) t) ≡ false = ap (begins p) (sym split) ∙ here in
    rw (split, other) refl

-- The first `read` bytes of a text are read, and marked as the first `len` bytes of t; with the rest they make up the whole.
pub record MarkedSoFar (p : List ℕ) (m : ℕ) (whole t : List ℕ) (read len count : ℕ) : Type 0 where
  pub sought : 0 < length p
  pub behind : len ≤ read
  pub within : read ≤ length t
  pub counted : count ≤ len
  pub same_len : length t ≡ length whole
  pub text : take len t ++ marked_from p m 0 (drop read t) ≡ marked_from p m 0 whole
  pub matches : count + matches_from p 0 (drop read t) ≡ matches_from p 0 whole

-- a byte v is written for the next k bytes, and then `next` matches are counted
written : {p : List ℕ} {m : ℕ} {whole t : List ℕ} {read len count : ℕ} → MarkedSoFar p m whole t read len count → (k v next : ℕ) → 0 < k → read + k ≤ length t → next ≤ count + 1
    → marked_from p m 0 (drop read t) ≡ v ∷ marked_from p m 0 (drop (read + k) t)
    → count + matches_from p 0 (drop read t) ≡ next + matches_from p 0 (drop (read + k) t)
    → MarkedSoFar p m whole (set t len v) (read + k) (len + 1) next
written {p} {m} {whole} {t} {read} {len} {count} h k v next some fits one turn counts =
    let rest : drop (read + k) (set t len v) ≡ drop (read + k) t = drop-set-lt (read + k) t len v (omega arith) in
    record {
      sought = h.sought;
      behind = omega arith;
      within = omega (arith, length-set t len v);
      counted = omega arith;
      same_len = omega (arith, length-set t len v);
      text = rw (take_more_set t len v (omega arith), rest, append_assoc) (ap (λ r. take len t ++ r) (sym turn) ∙ h.text);
      matches = rw rest (omega (arith, counts, h.matches));
    }

pub after_match : {p : List ℕ} {m : ℕ} {whole t : List ℕ} {read len count : ℕ} → MarkedSoFar p m whole t read len count → read < length t → begins p (drop read t) ≡ true
    → MarkedSoFar p m whole (set t len m) (read + length p) (len + 1) (count + 1)
after_match {p} {m} {whole} {t} {read} {len} {count} h more here =
    written h (length p) m (count + 1) h.sought (omega (arith, begins_fits p (drop read t) here, length-drop read t)) (omega arith)
    (marked_match p m t read h.sought more here) (omega (arith, matches_match p t read h.sought more here))

pub after_other : {p : List ℕ} {m : ℕ} {whole t : List ℕ} {read len count : ℕ} → MarkedSoFar p m whole t read len count → read < length t → begins p (drop read t) ≡ false
    → MarkedSoFar p m whole (set t len (get_or t read 0)) (read + 1) (len + 1) count
after_other {p} {m} {whole} {t} {read} {len} {count} h more here =
    written h 1 (get_or t read 0) count (omega arith) (omega arith) (omega arith)
    (marked_other p m t read more here) (ap (λ n. count + n) (matches_other p t read more here))
