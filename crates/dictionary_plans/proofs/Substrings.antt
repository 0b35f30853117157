-- The substrings of a call, and those that are marked so far.
use Rattle.std.proofs.Common.{◌≡◌, ℕ, zero, suc, ◌+◌, ◌-◌, ◌*◌, ◌<◌, ◌≤◌, Bool, true, false, cond, List, [], ◌∷◌, ◌++◌, length, take, drop, get_or, refl, sym, ap, ◌∙◌, arith, add-one, length-append, length-take, length-drop}
use Rattle.std.proofs.lemmas.List.{drop_more, get_or-take, get_or-drop, take-append-le}
use Rattle.std.proofs.lemmas.Bool.{le-leb}
use Rattle.machine.specs.Texts.{Text, Code, begins}
use Rattle.machine.specs.Strings.{segment_from, matches, matches_from, with_mark}
use Rattle.machine.specs.World.{parameter}
use Rattle.dictionary_plans.specs.Substrings.{substrings}

matches_from_within : (p : Text) (skip : ℕ) (t : Text) → matches_from p skip t ≤ length t
matches_from_within p skip [] = omega arith
matches_from_within p zero (b ∷ bs) = go (begins p (b ∷ bs)) (matches_from_within p (length p - 1) bs) (matches_from_within p 0 bs)
  where
    go : (r : Bool) {m n : ℕ} → m ≤ length bs → n ≤ length bs → cond r (suc m) n ≤ suc (length bs)
    go true found other = omega arith
    go false found other = omega arith
matches_from_within p (suc skip) (b ∷ bs) = omega (arith, matches_from_within p skip bs)

pub matches_within : (p t : Text) → matches p t ≤ length t
matches_within [] t = omega arith
matches_within (b ∷ bs) t = matches_from_within (b ∷ bs) 0 t

-- the substrings are the parameters behind the first
substring_is : (ps : List Text) (n : ℕ) → n < length (substrings ps) → get_or (substrings ps) n [] ≡ parameter (n + 1) ps
substring_is ps n h =
    let used : n < 62 = omega (arith, length-take 62 (drop 1 ps)) in
    get_or-take 62 (drop 1 ps) n [] used ∙ get_or-drop 1 ps n [] ∙ ap (λ k. get_or ps k []) (omega arith)

-- a substring is marked, if there is a number for it
one_marked : (code : Code) (k : ℕ) (q : Text) (qs : List Text) (places : ℕ) (t : Text) → k < 62
    → segment_from code (suc k) (q ∷ qs) places t ≡ segment_from code (suc (suc k)) qs (places + matches q t) (with_mark q (code.segment_mark (suc k)) t)
one_marked code k q qs places t low = rw (le-leb (suc k) 62 (omega arith)) refl

substring_marked : (code : Code) (highest : ℕ) (ps : List Text) (n places : ℕ) (t : Text) → n < length (substrings ps) → highest + n < 62
    → segment_from code (suc (highest + n)) (drop n (substrings ps)) places t
    ≡ segment_from code (suc (highest + (n + 1))) (drop (n + 1) (substrings ps)) (places + matches (parameter (n + 1) ps) t)
    (with_mark (parameter (n + 1) ps) (code.segment_mark (highest + n + 1)) t)
substring_marked code highest ps n places t more low =
    let qs = substrings ps in
    let next : suc (highest + (n + 1)) ≡ suc (suc (highest + n)) = omega arith in
    rw (← substring_is ps n more, next, add-one (highest + n))
    (ap (λ rest. segment_from code (suc (highest + n)) rest places t) (drop_more qs n [] more) ∙ one_marked code (highest + n) (get_or qs n []) (drop (n + 1) qs) places t low)

-- Of a text t, n substrings are marked in the first len bytes of an area, in so many places; with the others all of them are.
pub record MarkedSoFar (code : Code) (highest : ℕ) (ps : List Text) (t area : List ℕ) (n len places : ℕ) : Type 0 where
  pub within : len ≤ length area
  pub same_len : length area ≡ length t
  pub few : places ≤ n * 32768
  pub whole : segment_from code (suc (highest + n)) (drop n (substrings ps)) places (take len area) ≡ segment_from code (suc highest) (substrings ps) 0 t

module _ {code : Code} {highest : ℕ} {ps : List Text} {t area : List ℕ} {n len places : ℕ} (so_far : MarkedSoFar code highest ps t area n len places) where
  pub mark_more : n < length (substrings ps) → highest + n < 62 → length t ≤ 32768 → (q marked : Text) (m size count : ℕ)
      → q ≡ parameter (n + 1) ps → m ≡ code.segment_mark (highest + n + 1) → take size marked ≡ with_mark q m (take len area)
      → size ≡ length (with_mark q m (take len area)) → length marked ≡ length (take len area) → count ≡ matches q (take len area)
      → MarkedSoFar code highest ps t (marked ++ drop len area) (n + 1) size (places + count)
  mark_more more low small q marked m size count q_is m_is text size_is same counted =
      let fits : size ≤ length marked = omega (arith, ap length text, length-take size marked) in
      record {
        within = omega (arith, length-append marked (drop len area));
        same_len = omega (arith, length-append marked (drop len area), length-take len area, length-drop len area, so_far.within, so_far.same_len);
        few = omega (arith, matches_within q (take len area), length-take len area, so_far.within, so_far.same_len, so_far.few);
        whole = rw (take-append-le size marked (drop len area) fits, text, counted, q_is, m_is)
            (sym (substring_marked code highest ps n places (take len area) more low) ∙ so_far.whole);
      }
