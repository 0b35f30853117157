use Rattle.std.proofs.Common.{◌∙◌, arith}
use Rattle.dictionary.proofs.Located.{spot}
use Rattle.dictionary.proofs.Taken.{row_taken, new_taken}
use Rattle.dictionary.proofs.dictionary.Dictionary.after_define.Goals as goal

pub overflow_sub-self : goal.overflow_sub-self
overflow_sub-self c =
    let here = spot c.args.self.now c.in-Some.place c.in-Some.ensures.at in
    omega (arith, c.body_size.ensures)

pub returns-in-Some : goal.returns-in-Some
returns-in-Some c code m size =
    let d = c.args.self.now in
    let here = spot d c.in-Some.place c.in-Some.ensures.at in
    let taken = row_taken d c.args.store.now c.args.name.now c.in-Some.place m c.requires c.in-Some.ensures in
    record { names = c.len-names.ensures ∙ taken.names; bytes = omega (arith, taken.bytes, c.body_size.ensures) }

pub returns-in-None : goal.returns-in-None
returns-in-None c code m size =
    let taken = new_taken c.args.self.now c.args.store.now c.args.name.now m c.requires c.in-None.ensures in
    record { names = omega (arith, taken.names, c.len-names.ensures); bytes = omega (arith, taken.bytes) }
