use Rattle.std.proofs.lemmas.Result.{err_from_is_err_and}
use Rattle.library.specs.Name.{name_bytes}
use Rattle.library.specs.Operations.{program_of, store, delete}
use Rattle.ttm_run.proofs.Drafts.{draft_leaves_nothing}
use Rattle.ttm_run.proofs.Steps.{one, to_the_end, first_off, second_off, third_off, all_on}
use Rattle.ttm_run.proofs.filling.fill.Goals as goal

pub returns-in_err-store_programs : goal.returns-in_err-store_programs
returns-in_err-store_programs g c =
    let r = err_from_is_err_and c.from_residual.result c.from_residual.ensures.1 in
    let told = c.in_err-store_programs.ensures in
    rw (r.1, r.2) (record { filled = first_off _ _ _ _ _ _ _ told.stored; law = draft_leaves_nothing })

pub returns-in_err-store : goal.returns-in_err-store
returns-in_err-store g c =
    let r = err_from_is_err_and c.from_residual-in_err-store.result c.from_residual-in_err-store.ensures.1 in
    let before = c.in_ok-store_programs.ensures in
    let told = c.in_err-store.ensures in
    let draft = program_of c.args.name.now (g.S.Source.strings c.args.strings.now) in
    rw (r.1, r.2) (record { filled = second_off _ _ _ _ _ _ _ _ before.stored (one _ _ (store draft) _ told.refusal told.after); law = draft_leaves_nothing })

pub returns-in_err-store_programs-2 : goal.returns-in_err-store_programs-2
returns-in_err-store_programs-2 g c =
    let r = err_from_is_err_and c.from_residual-in_err-store_programs-2.result c.from_residual-in_err-store_programs-2.ensures.1 in
    let before = c.in_ok-store_programs.ensures in
    let came = c.in_ok-store.ensures in
    let told = c.in_err-store_programs-2.ensures in
    let draft = program_of c.args.name.now (g.S.Source.strings c.args.strings.now) in
    rw (r.1, r.2) (record {
      filled = third_off _ _ _ _ _ _ _ _ _ before.stored (one _ _ (store draft) _ came.refusal came.after) (to_the_end _ _ _ _ _ _ c.programs-end.ensures told.stored);
      law = draft_leaves_nothing;
    })

pub returns : goal.returns
returns g c =
    let before = c.in_ok-store_programs.ensures in
    let came = c.in_ok-store.ensures in
    let after = c.in_ok-store_programs-2.ensures in
    let draft = program_of c.args.name.now (g.S.Source.strings c.args.strings.now) in
    record {
      filled = all_on _ _ _ _ _ _ _ _ _ _ before.stored (one _ _ (store draft) _ came.refusal came.after) (to_the_end _ _ _ _ _ _ c.programs-end.ensures after.stored) (one _ _ (delete (name_bytes c.args.name.now)) _ c.delete.ensures.refusal c.delete.ensures.after);
      law = draft_leaves_nothing;
    }
