use Rattle.std.proofs.Common.{◌≡◌, ◌∙◌, sym, ap₂}
use Rattle.machine.specs.Texts.{not_empty}
use Rattle.machine.specs.Scan.{rule}
use Rattle.world.specs.Standing.{world_in}
use Rattle.scan.specs.Texts.{right_of}
use Rattle.expansion.proofs.Steps.{stepped_by_rule, stepped_by_call}
use Rattle.expansion.proofs.scanning.step.Goals as goal

pub returns-in-Close-clause-goes : goal.returns-in-Close-clause-goes
returns-in-Close-clause-goes g c =
    let fits : c.rule_at_front.result ≡ rule g.C.Code.meaning (not_empty c.args.roll.now.entries.items) (right_of c.args.texts.now)
    = c.rule_at_front.ensures.value ∙ ap₂ (rule g.C.Code.meaning) c.is_inside.ensures c.right.ensures
    in
    stepped_by_call g.C.Code.meaning _ _ _ _ _ _ _ _ _ c.drop_front.new.self (sym c.in-Close.is ∙ fits) c.drop_front.ensures c.make_call.ensures.goes

pub returns-in_default-clause-goes : goal.returns-in_default-clause-goes
returns-in_default-clause-goes g c =
    let fits : c.rule_at_front.result ≡ rule g.C.Code.meaning (not_empty c.args.roll.now.entries.items) (right_of c.args.texts.now)
    = c.rule_at_front.ensures.value ∙ ap₂ (rule g.C.Code.meaning) c.is_inside.ensures c.right.ensures
    in
    stepped_by_rule g.C.Code.meaning _ (world_in g.K.Reader c.args.world.now) _ _ _ _ _ _ _ c.rule_at_front.result fits c.follow.ensures.goes
