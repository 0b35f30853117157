use Rattle.std.proofs.Common.{◌∙◌, ◌≡◌, ap, refl, ◌≤◌, ◌+◌, ◌-◌, ◌++◌, take, drop, length, arith, length-take, length-drop}
use Rattle.scan.proofs.Parts.{length-written, front_of_written, from_written}
use Rattle.scan.proofs.texts.ScanTexts.write_before_right.Goals as goal

pub returns : goal.returns
returns g c =
    let s = c.args.self.now in
    let d = s.area.now in
    let n = c.args.n in
    let start = s.right - n in
    let wrote = c.write_part.ensures in
    let room : s.left + n ≤ s.right = omega (arith, c.requires.room, s.ordered, s.within, length-take s.left d, length-drop s.right d) in
    let end : start + n ≡ s.right = omega (arith, room) in
    let fits : start + n ≤ length d = omega (arith, end, s.within) in
    let behind : s.left ≤ start = omega (arith, room) in (
      wrote.0,
      wrote.1,
      wrote.2,
      record {
        left_is = ap (take s.left) wrote.3 ∙ front_of_written d wrote.0 start n fits wrote.2 s.left behind;
        right_is = ap (drop start) wrote.3 ∙ from_written d wrote.0 start n fits wrote.2 ∙ ap (λ m. wrote.0 ++ drop m d) end;
        same_area = record { same_loan = refl; same_size = ap length wrote.3 ∙ length-written d wrote.0 start n fits wrote.2 };
      },
    )
