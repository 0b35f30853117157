use Rattle.std.proofs.Common.{sym, ◌∙◌}
use Rattle.dictionary.specs.Meant.{rows_in}
use Rattle.dictionary.proofs.Firsts.{without_row_at, without_row_none}
use Rattle.dictionary.proofs.dictionary.Dictionary.remove_named.Goals as goal

pub returns-in-Some-clause-rows : goal.returns-in-Some-clause-rows
returns-in-Some-clause-rows c =
    c.remove_row.ensures.rows
    ∙ sym (without_row_at c.args.name.now (rows_in c.args.self.now c.args.store.now) _ c.in-Some.ensures.first)

pub returns-in_default-clause-rows : goal.returns-in_default-clause-rows
returns-in_default-clause-rows c =
    let h = c.in_default.ensures in
    sym (without_row_none c.args.name.now (rows_in c.args.self.now c.args.store.now) h)
