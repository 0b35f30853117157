-- The highest number of a mark.
use Rattle.std.proofs.Common.{◌≡◌, ℕ, max, List, [], ◌∷◌, Some, None, Option, refl, ap, arith}
use Rattle.std.specs.List.{fold, reduce, filter_map, cons_option}
use Rattle.std.specs.Option.{unwrap_or}
use Rattle.machine.specs.Texts.{Text, Code, highest_mark}

from_zero : (ns : List ℕ) → unwrap_or (reduce max ns) 0 ≡ fold max 0 ns
from_zero [] = refl
from_zero (n ∷ ns) = ap (λ k. fold max k ns) (omega arith)

one_more : (most : ℕ) (o : Option ℕ) (ns : List ℕ) (rest : ℕ) → ((m : ℕ) → fold max m ns ≡ max m rest)
    → fold max most (cons_option o ns) ≡ max most (max (unwrap_or o 0) rest)
one_more most None ns rest h = omega (arith, h most)
one_more most (Some n) ns rest h = omega (arith, h (max most n))

highest_from : (code : Code) (most : ℕ) (t : Text) → fold max most (filter_map code.mark_number t) ≡ max most (highest_mark code t)
highest_from code most [] = omega arith
highest_from code most (b ∷ bs) =
    one_more most (code.mark_number b) (filter_map code.mark_number bs) (highest_mark code bs) (λ m. highest_from code m bs)

pub highest_is : (code : Code) (t : Text) → unwrap_or (reduce max (filter_map code.mark_number t)) 0 ≡ highest_mark code t
highest_is code t = omega (arith, from_zero (filter_map code.mark_number t), highest_from code 0 t)
