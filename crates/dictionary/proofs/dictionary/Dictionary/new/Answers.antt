use Rattle.std.proofs.Common.{true, replicate, ap}
use Rattle.dictionary.specs.Decoding.{packed, row_size, row_in, class_size, class_in}
use Rattle.dictionary.proofs.Flags.{all_up}
use Rattle.dictionary.proofs.Meant.{as_new}
use Rattle.dictionary.proofs.dictionary.Dictionary.new.Goals as goal

pub returns-clause-meaning : goal.returns-clause-meaning
returns-clause-meaning c store =
    as_new (replicate 46 true) _ _ all_up
    (ap (λ rs. packed row_size row_in rs _) c.in_ok-with_capacity.ensures.items)
    (ap (λ cs. packed class_size class_in cs _) c.in_ok-with_capacity-2.ensures.items)
