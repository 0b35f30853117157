-- A packed text of which a part is replaced: what copying its end and writing the piece makes of the area.
use Rattle.std.proofs.Common.{◌≡◌, ℕ, ◌+◌, ◌-◌, ◌≤◌, List, ◌++◌, [], length, take, drop, slice_range, refl, sym, ap, subst, ◌∙◌, arith, append_assoc, length-append, length-drop, length-take}
use Rattle.std.proofs.lemmas.List.{take-take, take_at, drop_at, drop-drop, take-append-le, drop-append-le, length-take-le}
use Rattle.std.proofs.lemmas.List.Edits.{take-paste, drop-paste}
use Rattle.std.proofs.lemmas.Slice.{between_is}
use Rattle.std.specs.List.{splice, copy_within}
use borrow.Rule.Slice.PartMut.{put_mid}

-- what lies before the place that is copied to
take-copied : (xs : List ℕ) (i j at n : ℕ) → n ≤ at → at ≤ length xs → take n (copy_within xs i j at) ≡ take n xs
take-copied xs i j at n l h =
    let front : length (take at xs) ≡ at = length-take-le at xs h in
    rw append_assoc (take-append-le n (take at xs) _ (omega arith) ∙ take-take n at xs l)

-- what lies from there on
drop-copied : (xs : List ℕ) (i j at : ℕ) → at ≤ length xs → drop at (copy_within xs i j at) ≡ take (j - i) (drop i xs) ++ drop (at + (j - i)) xs
drop-copied xs i j at h = rw append_assoc (drop_at (take at xs) _ at (length-take-le at xs h))

-- what lies past the copy
drop-copied_past : (xs : List ℕ) (i j at n : ℕ) → i ≤ j → j ≤ length xs → at + (j - i) ≤ n → at ≤ length xs → drop n (copy_within xs i j at) ≡ drop n xs
drop-copied_past xs i j at n le h l within =
    let more : at + (j - i) + (n - (at + (j - i))) ≡ n = omega arith in
    let same : drop (at + (j - i)) (copy_within xs i j at) ≡ drop (at + (j - i)) xs = drop-paste xs at (drop i xs) (j - i) within (omega (arith, length-drop i xs)) in
    subst (λ k. drop k (copy_within xs i j at) ≡ drop k xs) more
    (sym (drop-drop _ (at + (j - i)) (copy_within xs i j at)) ∙ ap (drop (n - (at + (j - i)))) same ∙ drop-drop _ (at + (j - i)) xs)

-- The text `take u a`, of which the part from s to e is replaced by p, so that what lay behind the part lies at n.
pub record Splicing (a p : List ℕ) (u s e n : ℕ) : Type 0 where
  pub part : (s ≤ e) × (e ≤ u) × (u ≤ length a)
  pub behind : n ≡ s + length p
  pub fits : n + (u - e) ≤ length a

-- what the area holds then
abbrev pub after : (a p : List ℕ) (u s e n : ℕ) → List ℕ
after a p u s e n = splice (take u a) s e p ++ drop (n + (u - e)) a

length-splice : {a p : List ℕ} {u s e n : ℕ} → Splicing a p u s e n → length (splice (take u a) s e p) ≡ n + (u - e)
length-splice {a} {p} {u} {s} {e} {n} h =
    omega (arith, length-append (take s (take u a)) (p ++ drop e (take u a)), length-append p (drop e (take u a)), length-take s (take u a), length-drop e (take u a), length-take u a)

pub take-after : {a p : List ℕ} {u s e n : ℕ} → Splicing a p u s e n → (c : List ℕ) → c ≡ after a p u s e n → take (n + (u - e)) c ≡ splice (take u a) s e p
take-after {a} {p} {u} {s} {e} {n} h c whole =
    rw whole (take_at (splice (take u a) s e p) _ (n + (u - e)) (length-splice h))

pub drop-after : {a p : List ℕ} {u s e n : ℕ} → Splicing a p u s e n → (c : List ℕ) → c ≡ after a p u s e n → drop (n + (u - e)) c ≡ drop (n + (u - e)) a
drop-after {a} {p} {u} {s} {e} {n} h c whole =
    rw whole (drop_at (splice (take u a) s e p) _ (n + (u - e)) (length-splice h))

-- the end is copied, and the piece written before it
by_piece : {a p : List ℕ} {u s e n : ℕ} → Splicing a p u s e n → (b : List ℕ) → b ≡ copy_within a e u n → take s b ++ (p ++ drop n b) ≡ after a p u s e n
by_piece {a} {p} {u} {s} {e} {n} h b moved =
    let before : take s b ≡ take s (take u a) =
    rw moved (take-copied a e u n s (omega arith) (omega arith) ∙ sym (take-take s u a (omega arith))) in
    let behind : drop n b ≡ drop e (take u a) ++ drop (n + (u - e)) a =
    rw moved (drop-copied a e u n (omega arith) ∙ ap (λ t. t ++ drop (n + (u - e)) a) (between_is a e u)) in
    rw (before, behind, append_assoc, append_assoc) refl

pub after_piece : {a p : List ℕ} {u s e n : ℕ} → Splicing a p u s e n → (b q : List ℕ) (k : ℕ) → b ≡ copy_within a e u n → q ≡ p → k ≡ n - s
    → put_mid s k b q ≡ after a p u s e n
after_piece {a} {p} {u} {s} {e} {n} h b q k moved same kept =
    let there : s + k ≡ n = omega arith in
    rw (drop-drop, there, same) (by_piece h b moved)

-- the same where the piece is copied from i on
pub after_copy : {a p : List ℕ} {u s e n : ℕ} → Splicing a p u s e n → (b c : List ℕ) (i j : ℕ) → b ≡ copy_within a e u n → take (j - i) (drop i b) ≡ p → s + (j - i) ≡ n
    → c ≡ copy_within b i j s → c ≡ after a p u s e n
after_copy {a} {p} {u} {s} {e} {n} h b c i j moved same there copied =
    rw (copied, same, there, append_assoc) (by_piece h b moved)

-- a piece from i to j of the text stays where it is if it lies before the place that the end is copied to
pub piece_before : (a b : List ℕ) (u e n i j : ℕ) → b ≡ copy_within a e u n → j ≤ n → n ≤ length a → j ≤ u → take (j - i) (drop i b) ≡ slice_range (take u a) i j
piece_before a b u e n i j moved l within h =
    let there : take j b ≡ take j a = rw moved (take-copied a e u n j l within) in
    let here : take j (take u a) ≡ take j a = take-take j u a h in
    rw (between_is, between_is, there, here) refl

-- and moves with the end if it lies in that
pub piece_behind : (a b : List ℕ) (u e n i j m k : ℕ) → b ≡ copy_within a e u n → e ≤ i → i ≤ j → j ≤ u → u ≤ length a → n ≤ length a → m ≡ n + (i - e) → k ≡ j - i
    → take k (drop m b) ≡ slice_range (take u a) i j
piece_behind a b u e n i j m k moved l le h within fits there size_is =
    let end_at : drop n b ≡ drop e (take u a) ++ drop (n + (u - e)) a =
    rw moved (drop-copied a e u n fits ∙ ap (λ t. t ++ drop (n + (u - e)) a) (between_is a e u)) in
    let size : length (drop e (take u a)) ≡ u - e = omega (arith, length-drop e (take u a), length-take u a) in
    let split : drop m b ≡ drop (i - e) (drop e (take u a)) ++ drop (n + (u - e)) a =
    rw (there, ← drop-drop, end_at) (drop-append-le (i - e) (drop e (take u a)) _ (omega arith)) in
    let at_i : e + (i - e) ≡ i = omega arith in
    let split_at_i : drop m b ≡ drop i (take u a) ++ drop (n + (u - e)) a = split ∙ ap (λ t. t ++ drop (n + (u - e)) a) (drop-drop (i - e) e (take u a) ∙ ap (λ k. drop k (take u a)) at_i) in
    rw (size_is, split_at_i) (take-append-le (j - i) (drop i (take u a)) _ (omega (arith, length-drop i (take u a), length-take u a)))

-- a piece in the part is copied first, and then the end
pub after_inside : {a : List ℕ} {u s e n i j : ℕ} → Splicing a (slice_range (take u a) i j) u s e n → (b c : List ℕ) → b ≡ copy_within a i j s → c ≡ copy_within b e u n
    → s ≤ i → i ≤ j → j ≤ e → n ≡ s + (j - i) → c ≡ after a (slice_range (take u a) i j) u s e n
after_inside {a} {u} {s} {e} {n} {i} {j} h b c copied moved l le in_part there =
    let front : take n b ≡ take s a ++ take (j - i) (drop i a) =
    rw (copied, there) (take-paste a s (drop i a) (j - i) (omega arith) (omega (arith, length-drop i a))) in
    let end_at : drop e b ≡ drop e a = rw copied (drop-copied_past a i j s e le (omega arith) (omega arith) (omega arith)) in
    let past : drop (n + (u - e)) b ≡ drop (n + (u - e)) a = rw copied (drop-copied_past a i j s (n + (u - e)) le (omega arith) (omega arith) (omega arith)) in
    let text : take s (take u a) ≡ take s a = take-take s u a (omega arith) in
    let piece : slice_range (take u a) i j ≡ take (j - i) (drop i a) =
    between_is (take u a) i j ∙ ap (drop i) (take-take j u a (omega arith)) ∙ sym (between_is a i j) in
    rw (moved, front, end_at, past, text, piece, ← between_is a e u, append_assoc, append_assoc, append_assoc, append_assoc) refl

-- nothing is written in place of the part
pub after_removal : {a : List ℕ} {u s e : ℕ} → Splicing a [] u s e s → (c : List ℕ) → c ≡ copy_within a e u s → c ≡ after a [] u s e s
after_removal {a} {u} {s} {e} h c moved =
    let text : take s (take u a) ≡ take s a = take-take s u a (omega arith) in
    rw (moved, text, ← between_is a e u) refl
