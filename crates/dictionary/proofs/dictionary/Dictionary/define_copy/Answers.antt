use Rattle.std.proofs.Common.{◌≡◌, ℕ, ◌+◌, ◌-◌, ◌≤◌, List, length, take, slice_range, ap, ◌∙◌, arith}
use Rattle.std.specs.List.{sum_by}
use Rattle.std.proofs.lemmas.List.{take_all}
use Rattle.machine.specs.Dictionary.{Meaning, string, new_string, rest_of}
use Rattle.dictionary.specs.Strings.{place_of, string_in}
use Rattle.dictionary.proofs.Sizes.{row_measure, class_measure}
use Rattle.dictionary.proofs.Located.{spot}
use Rattle.dictionary.proofs.Meant.{defined}
use Rattle.dictionary.proofs.Said.{string_of}
use Rattle.dictionary.proofs.Rooms.{put_size, lies_clear, part_kept, row_means}
use Rattle.dictionary.proofs.Overwritten.{rest_in_store, length_slice}
use Rattle.dictionary.proofs.dictionary.Dictionary.define_copy.Goals as goal

pub body_start-body-requires : goal.body_start-body-requires
body_start-body-requires g c = let here = spot c.args.self.now (place_of c.args.source) c.requires.place in omega arith

pub overflow_add-start : goal.overflow_add-start
overflow_add-start g c =
    let here = spot c.args.self.now (place_of c.args.source) c.requires.place in
    omega (arith, c.body_start-body.ensures, c.args.source.extent.within)

pub overflow_add-end : goal.overflow_add-end
overflow_add-end g c =
    let here = spot c.args.self.now (place_of c.args.source) c.requires.place in
    omega (arith, c.body_start-body.ensures)

pub edit_within-requires-clause-piece : goal.edit_within-requires-clause-piece
edit_within-requires-clause-piece g c =
    let p = place_of c.args.source in
    let here = spot c.stand-place.new.self p (c.stand-place.ensures.earlier p (record { row = c.requires.place.row; start = c.requires.place.start })) in
    (omega (arith, c.args.source.extent.within), omega (arith, c.body_start-body.ensures))

pub edit_within-requires-clause-clear : goal.edit_within-requires-clause-clear
edit_within-requires-clause-clear g c =
    let p = place_of c.args.source in
    let at = c.stand-place.ensures.earlier p (record { row = c.requires.place.row; start = c.requires.place.start }) in
    lies_clear c.stand-place.new.self p c.stand-place.result _ _ at c.stand-place.ensures.place.at
    (omega (arith, c.body_start-body.ensures)) (omega (arith, c.body_start-body.ensures))

pub edit_within-requires-clause-fits : goal.edit_within-requires-clause-fits
edit_within-requires-clause-fits g c =
    let d = c.stand-place.new.self in
    let s = c.args.source in
    let st = c.args.store.now in
    let m = string (new_string (rest_of (string_in s st))) in
    let here = spot d c.stand-place.result c.stand-place.ensures.place.at in
    let was = spot c.args.self.now (place_of s) c.requires.place in
    let b = c.body_start-body.result in
    let start : b ≡ s.start + s.name = c.body_start-body.ensures in
    let within : s.extent.pointer ≤ s.extent.length = s.extent.within in
    let rest = length_slice st (s.start + s.name + s.extent.pointer) (s.start + s.name + s.extent.length) (omega arith) (omega arith) in
    omega (
      arith,
      put_size d c.stand-place.new.store c.args.name.now c.stand-place.result m c.stand-place.ensures.others.kept.whole c.stand-place.ensures.place,
      ap (sum_by row_measure) (c.stand-place.ensures.rows m),
      ap (sum_by class_measure) c.stand-place.ensures.others.classes,
      c.requires.room.bytes,
      c.stand-place.auto.store,
      ap length (rest_in_store s st),
    )

pub returns-clause-meaning : goal.returns-clause-meaning
returns-clause-meaning g c =
    let s = c.args.source in
    let st = c.args.store.now in
    let n = c.args.name.now in
    let after = c.stand-place.new.store in
    let rest : List ℕ = rest_of (string_in s st) in
    let m : Meaning = string (new_string rest) in
    let b = c.body_start-body.result in
    let p = s.extent.pointer in
    let l = s.extent.length in
    let here = spot c.args.self.now (place_of s) c.requires.place in
    let start : b ≡ s.start + s.name = c.body_start-body.ensures in
    let within : p ≤ l = s.extent.within in
    let slice : slice_range after (b + p) (b + l) ≡ rest =
    part_kept st after c.args.self.now.row_bytes (b + p) (b + l) (omega arith) (omega arith) c.stand-place.ensures.front
    ∙ ap (λ k. slice_range st (k + p) (k + l)) start
    ∙ rest_in_store s st in
    let size = length_slice st (b + p) (b + l) (omega arith) (omega arith) in
    let long : length rest ≤ (b + l) - (b + p) = omega (arith, ap length (ap (λ k. slice_range st (k + p) (k + l)) start ∙ rest_in_store s st)) in
    defined g.C.Code.meaning n m c.args.self.now c.edit_within.new.self st c.edit_within.new.store c.remove_original.new.originals c.remove_original.ensures
    (c.edit_within.ensures.others.originals ∙ c.stand-place.ensures.others.originals)
    (c.edit_within.ensures.row
    ∙ row_means c.stand-place.new.self after n c.stand-place.result _ m c.stand-place.ensures.others.kept.whole c.stand-place.ensures.place
    (ap (λ (x : List ℕ). string_of (take ((b + l) - (b + p)) x) 0) slice ∙ ap (λ (x : List ℕ). string_of x 0) (take_all ((b + l) - (b + p)) rest long))
    ∙ c.stand-place.ensures.rows m)
    (c.edit_within.ensures.others.classes ∙ c.stand-place.ensures.others.classes)
