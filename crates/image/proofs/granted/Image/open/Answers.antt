use Rattle.image.proofs.Granting.{opened_by, layout_is_unique}
use Rattle.image.proofs.granted.Image.open.Goals as goal

pub returns : goal.returns
returns g c = record {
  refusal = c.admit.ensures.refusal;
  opened = λ before. opened_by g.C.Code.meaning c.args.image.now c.admit.result before (λ k. (c.type_inv.image k).fits) c.admit.ensures.refusal c.admit.ensures.held;
  unique = layout_is_unique;
}
