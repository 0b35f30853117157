use Rattle.std.proofs.Common.{◌∙◌, sym}
use Rattle.library_plans.proofs.Stored.{undefined, other, misnamed, is_locked, present, is_full, stored}
use Rattle.library_plans.proofs.storing.plan_store.Goals as goal

pub returns-then-not-are_defined : goal.returns-then-not-are_defined
returns-then-not-are_defined g c = undefined c.args.sources.now (sym c.are_defined.ensures ∙ c.if-not-are_defined.true)

pub returns-then-not-are_strings : goal.returns-then-not-are_strings
returns-then-not-are_strings g c =
    let defined = sym c.are_defined.ensures ∙ c.if-not-are_defined.false in
    other c.args.sources.now defined (sym c.are_strings.ensures ∙ c.if-not-are_strings.true)

pub returns-then-not-is_program_name : goal.returns-then-not-is_program_name
returns-then-not-is_program_name g c =
    let defined = sym c.are_defined.ensures ∙ c.if-not-are_defined.false in
    let strings = sym c.are_strings.ensures ∙ c.if-not-are_strings.false in
    misnamed c.args.sources.now defined strings (sym c.is_program_name.ensures ∙ c.if-not-is_program_name.true)

pub returns-then-is_locked : goal.returns-then-is_locked
returns-then-is_locked g c =
    let defined = sym c.are_defined.ensures ∙ c.if-not-are_defined.false in
    let strings = sym c.are_strings.ensures ∙ c.if-not-are_strings.false in
    let named = sym c.is_program_name.ensures ∙ c.if-not-is_program_name.false in
    is_locked c.args.sources.now defined strings named (sym c.is_locked.ensures ∙ c.if-is_locked.true)

pub returns-then-is_present : goal.returns-then-is_present
returns-then-is_present g c =
    let defined = sym c.are_defined.ensures ∙ c.if-not-are_defined.false in
    let strings = sym c.are_strings.ensures ∙ c.if-not-are_strings.false in
    let named = sym c.is_program_name.ensures ∙ c.if-not-is_program_name.false in
    let unlocked = sym c.is_locked.ensures ∙ c.if-is_locked.false in
    present c.args.sources.now defined strings named unlocked (sym c.is_present.ensures ∙ c.if-is_present.true)

pub returns-then-not-has_space : goal.returns-then-not-has_space
returns-then-not-has_space g c =
    let defined = sym c.are_defined.ensures ∙ c.if-not-are_defined.false in
    let strings = sym c.are_strings.ensures ∙ c.if-not-are_strings.false in
    let named = sym c.is_program_name.ensures ∙ c.if-not-is_program_name.false in
    let unlocked = sym c.is_locked.ensures ∙ c.if-is_locked.false in
    let absent = sym c.is_present.ensures ∙ c.if-is_present.false in
    is_full c.args.sources.now defined strings named unlocked absent (sym c.has_space.ensures ∙ c.if-not-has_space.true)

pub returns : goal.returns
returns g c =
    let defined = sym c.are_defined.ensures ∙ c.if-not-are_defined.false in
    let strings = sym c.are_strings.ensures ∙ c.if-not-are_strings.false in
    let named = sym c.is_program_name.ensures ∙ c.if-not-is_program_name.false in
    let unlocked = sym c.is_locked.ensures ∙ c.if-is_locked.false in
    let absent = sym c.is_present.ensures ∙ c.if-is_present.false in
    rw c.of_effect.ensures (stored c.args.sources.now defined strings named unlocked absent (sym c.has_space.ensures ∙ c.if-not-has_space.false))
