use Rattle.std.proofs.Common.{ap, ◌∙◌, arith}
use Rattle.std.specs.List.{sum_by}
use Rattle.dictionary.specs.Decoding.{meaning_in}
use Rattle.dictionary.proofs.Sizes.{row_measure, class_measure, body_measured}
use Rattle.dictionary.proofs.Located.{spot}
use Rattle.dictionary.proofs.Rooms.{put_size, row_put}
use Rattle.dictionary.proofs.dictionary.Dictionary.put.Goals as goal

pub edit-requires-clause-fits : goal.edit-requires-clause-fits
edit-requires-clause-fits c =
    let d = c.stand-place.new.self in
    let m = meaning_in c.args.meaning c.args.body.now in
    let here = spot d c.stand-place.result c.stand-place.ensures.place.at in
    omega (
      arith,
      put_size d c.stand-place.new.store c.args.name.now c.stand-place.result m c.stand-place.ensures.others.kept.whole c.stand-place.ensures.place,
      ap (sum_by row_measure) (c.stand-place.ensures.rows m),
      ap (sum_by class_measure) c.stand-place.ensures.others.classes,
      body_measured c.args.meaning c.args.body.now (omega arith),
      c.requires.room.bytes,
      c.stand-place.auto.store,
    )

pub returns-clause-rows : goal.returns-clause-rows
returns-clause-rows c =
    c.edit.ensures.row
    ∙ row_put c.stand-place.new.self c.stand-place.new.store c.args.name.now c.stand-place.result c.args.meaning c.body_size-size.result c.args.body.now c.stand-place.ensures.others.kept.whole c.stand-place.ensures.place c.body_size-size.ensures
    ∙ c.stand-place.ensures.rows (meaning_in c.args.meaning c.args.body.now)
