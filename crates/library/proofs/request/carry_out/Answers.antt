use Rattle.library.specs.declared.request.Request.TheVariants.{Store, Delete}
use Rattle.library.specs.Operations.{operation}
use Rattle.library.proofs.Storing.{lawful_after_store}
use Rattle.library.proofs.Deleting.{lawful_after_delete}
use Rattle.library.proofs.Running.{carried}
use Rattle.library.proofs.request.carry_out.Goals as goal

pub returns-in-Store : goal.returns-in-Store
returns-in-Store g c =
    let told = carried (operation g.S.Source.strings) c.args.request.now (Store c.in-Store.name c.in-Store.strings) (g.K.Reader.meaning c.args.library.now) _ _ c.in-Store.is c.store.ensures.refusal c.store.ensures.after in
    record { refusal = told.0; after = told.1; law = (lawful_after_store, lawful_after_delete) }

pub returns-in-Delete : goal.returns-in-Delete
returns-in-Delete g c =
    let told = carried (operation g.S.Source.strings) c.args.request.now (Delete c.in-Delete.name) (g.K.Reader.meaning c.args.library.now) _ _ c.in-Delete.is c.delete.ensures.refusal c.delete.ensures.after in
    record { refusal = told.0; after = told.1; law = (lawful_after_store, lawful_after_delete) }
