use Rattle.std.proofs.Common.{◌∙◌, ap, refl, ◌≤◌, ◌+◌, take, drop, length, arith, length-take, length-drop}
use Rattle.scan.proofs.Parts.{length-written, up_to_written, rest_of_written}
use Rattle.scan.proofs.texts.ScanTexts.write_behind_left.Goals as goal

pub returns : goal.returns
returns g c =
    let s = c.args.self.now in
    let d = s.area.now in
    let n = c.args.n in
    let wrote = c.write_part.ensures in
    let room : s.left + n ≤ s.right = omega (arith, c.requires.room, s.ordered, s.within, length-take s.left d, length-drop s.right d) in
    let fits : s.left + n ≤ length d = omega (arith, room, s.within) in (
      wrote.0,
      wrote.1,
      wrote.2,
      record {
        left_is = ap (take (s.left + n)) wrote.3 ∙ up_to_written d wrote.0 s.left n fits wrote.2;
        right_is = ap (drop s.right) wrote.3 ∙ rest_of_written d wrote.0 s.left n fits wrote.2 s.right room;
        same_area = record { same_loan = refl; same_size = ap length wrote.3 ∙ length-written d wrote.0 s.left n fits wrote.2 };
      },
    )
