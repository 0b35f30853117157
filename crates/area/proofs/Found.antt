-- Beginning with a text, and finding it: the definitions by lists, and what std says of slices and their windows.
use Rattle.std.proofs.Common.{◌≡◌, ℕ, suc, ◌+◌, ◌<◌, ◌≤◌, Bool, true, false, cond, ◌&&◌, List, [], ◌∷◌, length, take, drop, eqb, leb, ltb, Some, None, Option, refl, sym, ap, ◌∙◌, arith}
use Rattle.std.specs.Cmp.Lexicographic.{pointwise}
use Rattle.std.specs.Option.{option_map}
use Rattle.std.specs.List.{position_or_len}
use Rattle.std.specs.Iterator.{AlwaysYields}
use Rattle.std.specs.Slice.Iter.{windows_rest, windows_size, windows_steps}
use Rattle.std.proofs.lemmas.Bool.{false≢true, and_parts, leb-true, leb-false, ltb-true, ltb-false, lt-ltb, le-ltb}
use Rattle.std.proofs.lemmas.Cmp.{nat_list_eq_equiv}
use Rattle.machine.specs.Texts.{begins, found_at, not_empty}

pub begins_is : (p t : List ℕ) → begins p t ≡ pointwise eqb p (take (length p) t)
begins_is [] t = refl
begins_is (p ∷ ps) [] = refl
begins_is (p ∷ ps) (b ∷ bs) = ap (λ r. eqb p b && r) (begins_is ps bs)

and-false : (x : Bool) → (x && false) ≡ false
and-false true = refl
and-false false = refl

-- a text does not begin with a longer one
too_short : (p t : List ℕ) → length t < length p → begins p t ≡ false
too_short [] t h = absurd (omega arith)
too_short (p ∷ ps) [] h = refl
too_short (p ∷ ps) (b ∷ bs) h = ap (λ r. eqb p b && r) (too_short ps bs (omega arith)) ∙ and-false (eqb p b)

pub begins_fits : (p t : List ℕ) → begins p t ≡ true → length p ≤ length t
begins_fits [] t e = omega arith
begins_fits (p ∷ ps) [] e = absurd (false≢true e)
begins_fits (p ∷ ps) (b ∷ bs) e = omega (arith, begins_fits ps bs (and_parts (eqb p b) (begins ps bs) e).1)

not_found : (p t : List ℕ) → length t < length p → found_at p t ≡ None
not_found p [] h = refl
not_found p (b ∷ bs) h = rw (too_short p (b ∷ bs) h, and-false (not_empty p), not_found p bs (omega arith)) refl

-- the runs of n neighbours
abbrev pub windows_of : ℕ → List ℕ → List (List ℕ)
windows_of n [] = []
windows_of n (x ∷ xs) = cond (leb n (length (x ∷ xs))) (take n (x ∷ xs) ∷ windows_of n xs) []

-- what the calls of a `windows` give where a window is left or not
window_or_none : (n : ℕ) (x : ℕ) (xs : List ℕ) (s : _) (r : Bool) → leb n (length (x ∷ xs)) ≡ r → windows_size s ≡ n → windows_rest s ≡ x ∷ xs
    → ((t : _) → windows_size t ≡ n → windows_rest t ≡ xs → AlwaysYields windows_steps (λ w. w.now) t (windows_of n xs))
    → AlwaysYields windows_steps (λ w. w.now) s (cond r (take n (x ∷ xs) ∷ windows_of n xs) [])
window_or_none n x xs s true here size left more = (
  (λ t next. omega (arith, leb-true n (length (x ∷ xs)) here, next.1.0, ap length left)),
  λ w t next. (rw (next.1.1, size, left) refl, more t (next.0 ∙ size) (next.1.2 ∙ ap (drop 1) left)),
)
window_or_none n x xs s false here size left more =
    λ w t next. omega (arith, leb-false n (length (x ∷ xs)) here, next.1.0, ap length left)

pub each_window : (n : ℕ) (xs : List ℕ) (s : _) → 0 < n → windows_size s ≡ n → windows_rest s ≡ xs → AlwaysYields windows_steps (λ w. w.now) s (windows_of n xs)
each_window n [] s h size left = λ w t next. omega (arith, next.1.0, ap length left)
each_window n (x ∷ xs) s h size left = window_or_none n x xs s _ refl size left (λ t. each_window n xs t h)

-- the place of the first element that passes, as `position` gives it
abbrev pub position_of : (List ℕ → Bool) → List (List ℕ) → Option ℕ
position_of test ws = cond (ltb (position_or_len test ws) (length ws)) (Some (position_or_len test ws)) None

ltb-suc : (k l : ℕ) (r : Bool) → ltb k l ≡ r → ltb (suc k) (suc l) ≡ r
ltb-suc k l true e = lt-ltb (suc k) (suc l) (omega (arith, ltb-true k l e))
ltb-suc k l false e = le-ltb (suc k) (suc l) (omega (arith, ltb-false k l e))

place_behind : (k l : ℕ) (r : Bool) → ltb k l ≡ r → cond (ltb (suc k) (suc l)) (Some (suc k)) None ≡ option_map suc (cond r (Some k) None)
place_behind k l true e = rw (ltb-suc k l true e) refl
place_behind k l false e = rw (ltb-suc k l false e) refl

position_by : (test : List ℕ → Bool) (w : List ℕ) (ws : List (List ℕ)) (r : Bool) → test w ≡ r
    → position_of test (w ∷ ws) ≡ cond r (Some 0) (option_map suc (position_of test ws))
position_by test w ws true e = rw (e, lt-ltb 0 (suc (length ws)) (omega arith)) refl
position_by test w ws false e =
    let one_more : 1 + position_or_len test ws ≡ suc (position_or_len test ws) = omega arith in
    rw (e, one_more) (place_behind (position_or_len test ws) (length ws) _ refl)

-- is this window the text?
abbrev pub is_text : List ℕ → List ℕ → Bool
is_text p w = pointwise eqb w p

is_text_is : (p t : List ℕ) → is_text p (take (length p) t) ≡ begins p t
is_text_is p t = nat_list_eq_equiv.symm (take (length p) t) p ∙ sym (begins_is p t)

not_empty_is : (p : List ℕ) → 0 < length p → not_empty p ≡ true
not_empty_is [] h = absurd (omega arith)
not_empty_is (p ∷ ps) h = refl

found_behind : (p : List ℕ) (x : ℕ) (xs : List ℕ) (r : Bool) → 0 < length p → leb (length p) (length (x ∷ xs)) ≡ r
    → position_of (is_text p) (windows_of (length p) xs) ≡ found_at p xs
    → position_of (is_text p) (cond r (take (length p) (x ∷ xs) ∷ windows_of (length p) xs) []) ≡ found_at p (x ∷ xs)
found_behind p x xs true h here more =
    rw (not_empty_is p h) (position_by (is_text p) _ _ (begins p (x ∷ xs)) (is_text_is p (x ∷ xs)) ∙ ap (λ o. cond (begins p (x ∷ xs)) (Some 0) (option_map suc o)) more)
found_behind p x xs false h here more = sym (not_found p (x ∷ xs) (leb-false (length p) (length (x ∷ xs)) here))

pub found_is : (p xs : List ℕ) → 0 < length p → position_of (is_text p) (windows_of (length p) xs) ≡ found_at p xs
found_is p [] h = refl
found_is p (x ∷ xs) h = found_behind p x xs _ h refl (found_is p xs h)

pub nowhere : (p t : List ℕ) → length p ≡ 0 → found_at p t ≡ None
nowhere p [] e = refl
nowhere [] (b ∷ bs) e = ap (option_map suc) (nowhere [] bs refl)
nowhere (p ∷ ps) (b ∷ bs) e = absurd (omega arith)
