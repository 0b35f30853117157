use Rattle.std.proofs.Common.{◌≡◌, ◌∙◌, ap, ap₂, length, min, take}
use Rattle.machine.specs.Scan.{parameters}
use Rattle.delivery.specs.declared.delivery.Delivery.{Delivery}
use Rattle.delivery.specs.Deliveries.{left_with}
use Rattle.delivery.proofs.Fronts.{left_before}
use Rattle.delivery.proofs.delivery.Delivery.parameters.Goals as goal

pub returns : goal.returns
returns c breaks s v h =
    let left : c.left-left.result.now ≡ left_with c.args.self.placement v s.left = c.left-left.ensures ∙ h.left_is in
    let before : take c.min-end.result c.left-left.result.now ≡ s.left
    = ap₂ take c.min-end.ensures left
    ∙ ap₂ (λ n l. take (min n (length l)) (left_with c.args.self.placement v s.left)) (ap (λ (d : Delivery). d.left) h.of_call) left
    ∙ left_before c.args.self.placement v s.left
    in
    c.parameters_in.ensures s.right s.world ∙ ap₂ (λ l q. parameters (record { left = l; right = s.right; roll = q; world = s.world })) before h.same_roll
