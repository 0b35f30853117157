use Rattle.std.proofs.Common.{◌∙◌, sym}
use Rattle.machine.specs.Faults.{program_name_length}
use Rattle.plan.proofs.Planning.{question_refuses}
use Rattle.library_plans.proofs.program_defined.plan_program_defined.Goals as goal

pub returns-then-not-is_program_name : goal.returns-then-not-is_program_name
returns-then-not-is_program_name g c = question_refuses c.args.sources.now _ program_name_length _ (sym c.is_program_name.ensures ∙ c.if-not-is_program_name.true)
