-- The strings that are handed over.
use Rattle.std.proofs.Common.{◌≡◌, ℕ, ◌+◌, ◌<◌, List, [], length, drop, map, get_or, Some, ap, ◌∙◌, arith}
use Rattle.std.specs.List.{slice_get}
use Rattle.std.specs.Option.{option_map}
use Rattle.std.proofs.lemmas.List.{get_or-drop, length-map}
use Rattle.std.proofs.lemmas.Option.{slice_get-map, slice_get-get_or}
use Rattle.machine.specs.Texts.{Text}
use Rattle.machine.specs.World.{parameter}

-- a string of those that the parameters behind the first name
pub named_by : {X : Type 0} (string : Text → X) (ps : List Text) (i : ℕ) → i < length (map string (drop 1 ps)) → slice_get (map string (drop 1 ps)) i ≡ Some (string (parameter (i + 1) ps))
named_by string ps i within =
    slice_get-map string (drop 1 ps) i
    ∙ ap (option_map string) (slice_get-get_or (drop 1 ps) i [] (omega (arith, length-map (drop 1 ps) string)))
    ∙ ap (λ n. Some (string n)) (get_or-drop 1 ps i [] ∙ ap (λ k. get_or ps k []) (let e : 1 + i ≡ i + 1 = omega arith in e))
