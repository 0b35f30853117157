-- What a selection passes is within the text. Assumes nothing.
use Rattle.std.proofs.Common.{◌≡◌, ℕ, zero, suc, pred, ◌+◌, ◌≤◌, Bool, true, false, ◌&&◌, eqb, [], ◌∷◌, length, drop, Some, None, Option, ap, arith, length-append}
use Rattle.std.specs.Option.{option_map}
use Rattle.std.proofs.lemmas.Bool.{cond_both, and_parts}
use Rattle.code.specs.Meaning.{marked}
use Rattle.machine.specs.Texts.{Text, Code, begins, not_empty, found_at, first_place}
use Rattle.machine.specs.Selection.{bytes_to_pass, zero_level}
use Rattle.machine.proofs.Common.{begun}
use Rattle.std.specs.List.{prefix_len}

pub bytes_within : (code : Code) (n : ℕ) (t : Text) → bytes_to_pass code n t ≤ length t
bytes_within code zero t = omega arith
bytes_within code (suc n) [] = omega arith
bytes_within code (suc n) (b ∷ bs) =
    cond_both (marked code b) _ _ (λ k. suc k ≤ suc (length bs)) (λ e. omega (arith, bytes_within code (suc n) bs)) (λ e. omega (arith, bytes_within code n bs))

pub run_within : (f : ℕ → Bool) (t : Text) → prefix_len f t ≤ length t
run_within f [] = omega arith
run_within f (b ∷ bs) = cond_both (f b) _ _ (λ k. k ≤ suc (length bs)) (λ e. omega (arith, run_within f bs)) (λ e. omega arith)

pub begun_within : (p t : Text) → begins p t ≡ true → length p ≤ length t
begun_within p t e = omega (arith, length-append p (drop (length p) t), ap length (begun p t e))

-- a place, if there is one, has room for j of n bytes
abbrev pub Room : ℕ → ℕ → Option ℕ → Type 0
Room j n None = Unit {0}
Room j n (Some k) = k + j ≤ n

one_on : (j n : ℕ) (o : Option ℕ) → Room j n o → Room j (suc n) (option_map suc o)
one_on j n None h = tt
one_on j n (Some k) h = omega arith

pub first_room : (f : ℕ → Bool) (t : Text) → Room 1 (length t) (first_place f t)
first_room f [] = tt
first_room f (b ∷ bs) = cond_both (f b) _ _ (Room 1 (suc (length bs))) (λ e. omega arith) (λ e. one_on _ _ _ (first_room f bs))

pub found_room : (p t : Text) → Room (length p) (length t) (found_at p t)
found_room p [] = tt
found_room p (b ∷ bs) =
    cond_both (not_empty p && begins p (b ∷ bs)) _ _ (Room (length p) (suc (length bs)))
    (λ e. omega (arith, begun_within p (b ∷ bs) (and_parts _ _ e).1)) (λ e. one_on _ _ _ (found_room p bs))

pub zero_level_room : (code : Code) (protected : Bool) (level : ℕ) (t : Text) → Room 1 (length t) (zero_level code protected level t)
zero_level_room code true level [] = tt
zero_level_room code false level [] = tt
zero_level_room code true level (b ∷ bs) = one_on _ _ _ (zero_level_room code false level bs)
zero_level_room code false level (b ∷ bs) =
    let R = Room 1 (suc (length bs)) in
    cond_both (eqb b (code.named 64)) _ _ R (λ e. one_on _ _ _ (zero_level_room code true level bs)) (λ e.
    cond_both (eqb b (code.named 60)) _ _ R (λ e. one_on _ _ _ (zero_level_room code false (suc level) bs)) (λ e.
    cond_both (eqb b (code.named 62)) _ _ R (λ e. one_on _ _ _ (zero_level_room code false (pred level) bs)) (λ e.
    cond_both (eqb b (code.named 59) && eqb level 0) _ _ R (λ e. omega arith) (λ e. one_on _ _ _ (zero_level_room code false level bs)))))
