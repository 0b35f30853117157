use Rattle.std.proofs.Common.{[], ap, ◌∙◌}
use Rattle.machine.specs.Dictionary.{string, new_string, with_row}
use Rattle.dictionary.specs.Meant.{rows_in}
use Rattle.dictionary.proofs.Firsts.{with_row_twice}
use Rattle.dictionary.proofs.Rooms.{room_to_add}
use Rattle.dictionary.proofs.dictionary.Dictionary.stand.Goals as goal

pub add-requires-clause-memory : goal.add-requires-clause-memory
add-requires-clause-memory c = (room_to_add c.args.self.now c.args.store.now c.args.name.now c.requires.room.0 c.requires.whole c.in-None.ensures c.requires.room.1).memory

pub add-requires-clause-fits : goal.add-requires-clause-fits
add-requires-clause-fits c = (room_to_add c.args.self.now c.args.store.now c.args.name.now c.requires.room.0 c.requires.whole c.in-None.ensures c.requires.room.1).fits

pub returns-in-None-clause-rows : goal.returns-in-None-clause-rows
returns-in-None-clause-rows c m =
    ap (with_row c.args.name.now m) c.add.ensures.rows
    ∙ with_row_twice c.args.name.now m (string (new_string [])) (rows_in c.args.self.now c.args.store.now)
