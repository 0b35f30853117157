use Rattle.std.proofs.Common.{refl, rules, tests, sym, ◌∙◌}
use Rattle.std.proofs.lemmas.Iterator.{YieldsList-from_slice}
use Rattle.std.proofs.lemmas.Iterator.Search.{position_from_yields_List}
use Rattle.built_ins.proofs.Listed.{same, position_is, stands_at, places_differ}
use Rattle.built_ins.proofs.facts.place_of.Goals as goal

pub unwrap-requires : goal.unwrap-requires
unwrap-requires c =
    let found = position_from_yields_List (λ e. same e.function c.args.function) _ _ c.position.result c.position.ensures.ran
    (YieldsList-from_slice c.built_ins.result.now c.iter.ensures.rest) (λ x b q k. search (rules, tests)) in
    rw (found, position_is c.built_ins.result.now c.args.function c.built_ins.ensures) refl

pub returns-clause-place : goal.returns-clause-place
returns-clause-place c =
    let found = position_from_yields_List (λ e. same e.function c.args.function) _ _ c.position.result c.position.ensures.ran
    (YieldsList-from_slice c.built_ins.result.now c.iter.ensures.rest) (λ x b q k. search (rules, tests)) in
    stands_at _ _ (sym (found ∙ position_is c.built_ins.result.now c.args.function c.built_ins.ensures) ∙ c.unwrap.ensures)

pub returns-clause-differ : goal.returns-clause-differ
returns-clause-differ c = places_differ
