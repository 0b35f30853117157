use Rattle.std.proofs.Common.{length, ap, ◌∙◌, arith}
use Rattle.std.proofs.lemmas.List.{take_all}
use Rattle.machine.specs.Dictionary.{string, new_string, with_row}
use Rattle.dictionary.specs.Meant.{rows_in}
use Rattle.dictionary.proofs.Meant.{defined}
use Rattle.dictionary.proofs.dictionary.Dictionary.define_string.Goals as goal

pub returns-clause-meaning : goal.returns-clause-meaning
returns-clause-meaning g c =
    let n = c.args.name.now in
    let body = c.args.body.now in
    defined g.C.Code.meaning n (string (new_string body)) c.args.self.now c.put.new.self c.args.store.now c.put.new.store c.remove_original.new.originals c.remove_original.ensures c.put.ensures.others.originals
    (c.put.ensures.rows ∙ ap (λ b. with_row n (string (new_string b)) (rows_in c.args.self.now c.args.store.now)) (take_all (length body) body (omega arith)))
    c.put.ensures.others.classes
