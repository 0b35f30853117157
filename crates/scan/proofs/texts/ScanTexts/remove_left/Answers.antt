use Rattle.std.proofs.Common.{◌∙◌, ap, refl, ◌≤◌, ◌-◌, take, drop, length, arith, length-take}
use Rattle.scan.proofs.Parts.{front_of_closed, rest_of_closed}
use Rattle.scan.proofs.texts.ScanTexts.remove_left.Goals as goal

pub returns : goal.returns
returns c =
    let s = c.args.self.now in
    let d = s.area.now in
    let fits : s.left ≤ length d = omega (arith, s.ordered, s.within) in
    let within : c.args.end ≤ s.left = omega (arith, c.requires.1, length-take s.left d) in
    record {
      left_is = ap (take (s.left - (c.args.end - c.args.start))) c.copy_within.ensures.after ∙ front_of_closed d c.args.start c.args.end s.left c.requires.0 within fits;
      right_is = ap (drop s.right) c.copy_within.ensures.after ∙ rest_of_closed d c.args.start c.args.end s.left c.requires.0 within fits s.right s.ordered;
      same_area = record { same_loan = refl; same_size = c.copy_within.ensures.len };
    }
