use Rattle.std.proofs.Common.{◌∙◌, ap, refl, ◌≤◌, ◌+◌, take, drop, length, arith, length-drop}
use Rattle.scan.proofs.Parts.{front_of_moved, rest_of_moved}
use Rattle.scan.proofs.texts.ScanTexts.move_front.Goals as goal

pub returns : goal.returns
returns c =
    let d = c.args.self.now.area.now in
    let left = c.args.self.now.left in
    let right = c.args.self.now.right in
    let fits : right + c.args.n ≤ length d = omega (arith, length-drop right d) in
    record {
      left_is = ap (take (left + c.args.n)) c.copy_within.ensures.after ∙ front_of_moved d left right c.args.n c.args.self.now.ordered fits;
      right_is = ap (drop (right + c.args.n)) c.copy_within.ensures.after ∙ rest_of_moved d left right c.args.n c.args.self.now.ordered fits;
      same_area = record { same_loan = refl; same_size = c.copy_within.ensures.len };
    }
