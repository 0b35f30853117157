-- The substrings by which a string is segmented: those that are left.
use Rattle.std.proofs.Common.{◌≡◌, ℕ, suc, ◌+◌, ◌-◌, ◌<◌, ◌≤◌, min, Bool, true, false, cond, List, [], ◌∷◌, length, take, drop, get_or, leb, refl, ap, ◌∙◌, arith, length-drop, drop-cons}
use Rattle.std.proofs.lemmas.Bool.{le-leb, lt-leb}
use Rattle.std.proofs.lemmas.List.{length-take, drop_all, get_or-take, get_or-drop}
use Rattle.machine.specs.Texts.{Text, Code}
use Rattle.machine.specs.Strings.{matches, with_mark, Segmented, segment_from}
use Rattle.machine.specs.World.{parameter}

-- those from parameter n on
abbrev pub left : List Text → ℕ → List Text
left ps n = drop (n - 1) (take 62 (drop 1 ps))

-- the text when substrings are marked with the numbers from k on
abbrev pub marked_by : Code → ℕ → List Text → Text → Text
marked_by code k ps t = (segment_from code k ps 0 t).marked_text

-- what comes of the substring p, where the number k is there, and where it is not
abbrev marked_if : Code → ℕ → Text → List Text → Text → ℕ → Bool → Segmented
marked_if code k p ps t places there =
    cond there (segment_from code (suc k) ps (places + matches p t) (with_mark p (code.segment_mark k) t)) (record { marked_text = t; places = places; numbered = false })

-- the text does not depend on how many places there were before
same_text : (code : Code) (ps : List Text) (k a b : ℕ) (t : Text) → (segment_from code k ps a t).marked_text ≡ (segment_from code k ps b t).marked_text
same_text code [] k a b t = refl
same_text code (p ∷ ps) k a b t =
    go (leb k 62) (same_text code ps (suc k) (a + matches p t) (b + matches p t) (with_mark p (code.segment_mark k) t))
  where
    go : (there : Bool) → (marked_if code k p ps t a true).marked_text ≡ (marked_if code k p ps t b true).marked_text → (marked_if code k p ps t a there).marked_text ≡ (marked_if code k p ps t b there).marked_text
    go true h = h
    go false h = refl

pub one_marked : (code : Code) (k : ℕ) (p : Text) (ps : List Text) (t : Text) → k ≤ 62 → marked_by code k (p ∷ ps) t ≡ marked_by code (suc k) ps (with_mark p (code.segment_mark k) t)
one_marked code k p ps t h =
    ap (λ there. (marked_if code k p ps t 0 there).marked_text) (le-leb k 62 h)
    ∙ same_text code ps (suc k) (0 + matches p t) 0 (with_mark p (code.segment_mark k) t)

pub none_marked : (code : Code) (k : ℕ) (ps : List Text) (t : Text) → 62 < k → marked_by code k ps t ≡ t
none_marked code k [] t h = refl
none_marked code k (p ∷ ps) t h = ap (λ there. (marked_if code k p ps t 0 there).marked_text) (lt-leb k 62 h)

left_length : (ps : List Text) → length (take 62 (drop 1 ps)) ≡ min 62 (length ps - 1)
left_length ps = length-take 62 (drop 1 ps) ∙ ap (min 62) (length-drop 1 ps)

pub one_left : (ps : List Text) (n : ℕ) → 1 ≤ n → n < 63 → n < length ps → left ps n ≡ parameter n ps ∷ left ps (n + 1)
one_left ps n least most within =
    let all : List Text = take 62 (drop 1 ps) in
    let m : ℕ = n - 1 in
    drop-cons all m [] (omega (arith, left_length ps))
    ∙ ap (λ x. x ∷ drop (suc m) all) (get_or-take 62 (drop 1 ps) m [] (omega arith) ∙ get_or-drop 1 ps m [] ∙ ap (λ k. get_or ps k []) (let e : 1 + m ≡ n = omega arith in e))
    ∙ ap (λ k. parameter n ps ∷ drop k all) (let e : suc m ≡ n + 1 - 1 = omega arith in e)

pub none_left : (code : Code) (k : ℕ) (ps : List Text) (n : ℕ) (t : Text) → min 62 (length ps - 1) ≤ n - 1 → marked_by code k (left ps n) t ≡ t
none_left code k ps n t h = ap (λ l. marked_by code k l t) (drop_all (n - 1) (take 62 (drop 1 ps)) (omega (arith, left_length ps)))
