-- The left text before a value was written. Assumes nothing.
use Rattle.std.proofs.Common.{◌≡◌, ◌++◌, length, min, take, sym, arith}
use Rattle.std.proofs.lemmas.List.{take_all, take_at, length-append}
use Rattle.machine.specs.Texts.{Text}
use Rattle.delivery.specs.declared.delivery.Placement.{Placement}
use Rattle.delivery.specs.declared.delivery.Placement.TheVariants.{Active, Passive, Break}
use Rattle.delivery.specs.Deliveries.{left_with}

all_of : (left : Text) → take (min (length left) (length left)) left ≡ left
all_of left = take_all _ left (omega arith)

front_of : (left value : Text) → take (min (length left) (length (left ++ value))) (left ++ value) ≡ left
front_of left value =
    let least : min (length left) (length (left ++ value)) ≡ length left = omega (arith, length-append left value) in
    take_at left value _ (sym least)

pub left_before : (p : Placement) (value left : Text) → take (min (length left) (length (left_with p value left))) (left_with p value left) ≡ left
left_before Active value left = all_of left
left_before Passive value left = front_of left value
left_before Break value left = all_of left
