use Rattle.std.proofs.Common.{◌∙◌, refl, sym}
use Rattle.machine.specs.Faults.{program_name_length, locked, program_absent}
use Rattle.plan.proofs.Planning.{question_refuses, refusing}
use Rattle.library_plans.proofs.deleting.plan_delete.Goals as goal

pub returns-then-not-is_program_name : goal.returns-then-not-is_program_name
returns-then-not-is_program_name g c = question_refuses c.args.sources.now _ program_name_length _ (sym c.is_program_name.ensures ∙ c.if-not-is_program_name.true)

pub returns-then-is_locked : goal.returns-then-is_locked
returns-then-is_locked g c =
    let named = sym c.is_program_name.ensures ∙ c.if-not-is_program_name.false in
    let is_locked = sym c.is_locked.ensures ∙ c.if-is_locked.true in
    refusing c.args.sources.now _ locked (λ w sees. rw (sees.library, named, is_locked) refl)

pub returns-then-not-is_present : goal.returns-then-not-is_present
returns-then-not-is_present g c =
    let named = sym c.is_program_name.ensures ∙ c.if-not-is_program_name.false in
    let is_locked = sym c.is_locked.ensures ∙ c.if-is_locked.false in
    let absent = sym c.is_present.ensures ∙ c.if-not-is_present.true in
    refusing c.args.sources.now _ program_absent (λ w sees. rw (sees.library, named, is_locked, absent) refl)
