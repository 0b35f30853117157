use Rattle.std.proofs.Common.{◌∙◌, refl, sym}
use Rattle.machine.specs.Faults.{program_name_length, program_absent}
use Rattle.plan.proofs.Planning.{question_refuses, refusing}
use Rattle.library_plans.proofs.Names.{foreign, proper}
use Rattle.library_plans.proofs.naming.plan_names.Goals as goal

pub returns-then-not-is_program_name : goal.returns-then-not-is_program_name
returns-then-not-is_program_name g c = question_refuses c.args.sources.now _ program_name_length _ (sym c.is_program_name.ensures ∙ c.if-not-is_program_name.true)

pub returns-in_default : goal.returns-in_default
returns-in_default g c =
    let named = sym c.is_program_name.ensures ∙ c.if-not-is_program_name.false in
    let found = sym c.find_program.ensures.place ∙ c.in_default.is in
    refusing c.args.sources.now _ program_absent (λ w sees. rw (named, sees.library, ← c.get.ensures, found) refl)

pub returns-then-not-has_proper_names : goal.returns-then-not-has_proper_names
returns-then-not-has_proper_names g c =
    let named = sym c.is_program_name.ensures ∙ c.if-not-is_program_name.false in
    foreign c.args.sources.now _ named (rw (← c.get.ensures) (sym c.find_program.ensures.place ∙ c.in-Some.is)) (rw (← c.get.ensures) (c.find_program.ensures.found _ c.in-Some.is))
    (sym c.has_proper_names.ensures ∙ c.if-not-has_proper_names.true)

pub returns : goal.returns
returns g c =
    let named = sym c.is_program_name.ensures ∙ c.if-not-is_program_name.false in
    rw c.of_value.ensures
    (proper c.args.sources.now _ named (rw (← c.get.ensures) (sym c.find_program.ensures.place ∙ c.in-Some.is)) (rw (← c.get.ensures) (c.find_program.ensures.found _ c.in-Some.is))
    (sym c.has_proper_names.ensures ∙ c.if-not-has_proper_names.false))
