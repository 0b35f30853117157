-- The examples of the language page, by one computed test over the table. Assumes nothing.
use Rattle.std.proofs.Common.{◌≡◌, ℕ, Bool, true, ◌&&◌, List, [], ◌∷◌, get_or, codes, refl, ap}
use Rattle.std.specs.Fmt.{digits}
use Rattle.std.specs.List.{AllByRecursion}
use Rattle.std.specs.Str.{bytes_eq}
use Rattle.std.proofs.lemmas.Bool.{and_parts}
use Rattle.machine.specs.Dictionary.{new_dictionary}
use Rattle.machine.specs.Scan.{step, scanning, expansion}
use Rattle.machine.specs.Calls.{Reply}
use Rattle.machine.specs.Cases.{expanding, needing, answered}
use Rattle.machine.specs.Examples.{Example, examples, ComesTo, EveryExampleComesOut}
use Rattle.machine.proofs.WorkedCases.{equal}
use Rattle.std.specs.List.{list_all}

abbrev reply_to : Example → Reply
reply_to e = answered (expanding e.source e.text (needing 0 0 0 0 0))

abbrev passes : Example → Bool
passes e = bytes_eq ((reply_to e).number ∷ []) (0 ∷ []) && bytes_eq (reply_to e).shown (codes e.text)

all_pass : list_all passes examples ≡ true
unfolding answered step scanning expansion new_dictionary digits
all_pass = refl

each : (es : List Example) → list_all passes es ≡ true → AllByRecursion ComesTo es
each [] t = tt
each (e ∷ es) t =
    let both = and_parts (passes e) (list_all passes es) t in
    let parts = and_parts (bytes_eq ((reply_to e).number ∷ []) (0 ∷ [])) (bytes_eq (reply_to e).shown (codes e.text)) both.0 in (
      record {
        completes = ap (λ (ns : List ℕ). get_or ns 0 0) (equal ((reply_to e).number ∷ []) (0 ∷ []) parts.0);
        text_is = equal (reply_to e).shown (codes e.text) parts.1;
      },
      each es both.1,
    )

pub every_example : EveryExampleComesOut
every_example = each examples all_pass
