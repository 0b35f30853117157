-- The place of the first element that passes a test.
use Rattle.std.proofs.Common.{◌≡◌, ℕ, suc, ◌+◌, Bool, true, false, cond, List, [], ◌∷◌, Some, None, Option, refl, sym, ap, ◌∙◌, arith}
use Rattle.std.specs.Option.{option_map}
use Rattle.std.specs.List.{position_from}
use Rattle.machine.specs.Texts.{first_place}

-- a place in the rest of a text, as a place in the text
abbrev pub shifted : ℕ → Option ℕ → Option ℕ
shifted n None = None
shifted n (Some k) = Some (n + k)

pub shifted_more : (n : ℕ) (o : Option ℕ) → shifted n (option_map suc o) ≡ shifted (n + 1) o
shifted_more n None = refl
shifted_more n (Some k) = ap Some (omega arith)

shifted_nothing : (o : Option ℕ) → shifted 0 o ≡ o
shifted_nothing None = refl
shifted_nothing (Some k) = ap Some (omega arith)

by_test : (n : ℕ) (o : Option ℕ) (r : Bool) → cond r (Some n) (shifted (n + 1) o) ≡ shifted n (cond r (Some 0) (option_map suc o))
by_test n o true = ap Some (omega arith)
by_test n o false = sym (shifted_more n o)

position_from_is : {X : Type 0} (f : X → Bool) (n : ℕ) (xs : List X) → position_from f n xs ≡ shifted n (first_place f xs)
position_from_is f n [] = refl
position_from_is f n (x ∷ xs) = ap (cond (f x) (Some n)) (position_from_is f (n + 1) xs) ∙ by_test n (first_place f xs) (f x)

pub first_place_is : {X : Type 0} (f : X → Bool) (xs : List X) → position_from f 0 xs ≡ first_place f xs
first_place_is f xs = position_from_is f 0 xs ∙ shifted_nothing (first_place f xs)
