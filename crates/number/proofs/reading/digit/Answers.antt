use Rattle.std.proofs.Common.{◌≡◌, ℕ, rules, nat_eq, ltb, cond, length, Some, None, ap, sym, ◌∙◌, tests}
use Rattle.std.proofs.lemmas.Iterator.{YieldsList-from_slice}
use Rattle.std.proofs.lemmas.Iterator.Search.{position_from_yields_List}
use Rattle.std.specs.List.{position_or_len}
use Rattle.machine.specs.Texts.{first_place}
use Rattle.number.proofs.Digits.{first_place-position}
use Rattle.number.proofs.reading.digit.Goals as goal

pub returns : goal.returns
returns g c =
    let digits = c.args.signs.now.digits in
    let same = λ (d : ℕ). nat_eq d c.args.byte in
    let found : c.position.result ≡ cond (ltb (position_or_len same digits) (length digits)) (Some (position_or_len same digits)) None = position_from_yields_List same _ _ _ c.position.ensures.ran (YieldsList-from_slice digits c.iter.ensures.rest) (λ x b q k. search (rules, tests)) in
    found ∙ sym (first_place-position same digits) ∙ ap (first_place same) c.args.signs.now.digits_are
