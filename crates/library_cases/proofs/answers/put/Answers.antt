use Rattle.std.proofs.Common.{refl}
use Rattle.std.proofs.lemmas.Result.{err_from_is_err_and}
use Rattle.library.specs.Name.{name_bytes, fits_name}
use Rattle.library_cases.proofs.Naming.{made, refused}
use Rattle.library_cases.proofs.answers.put.Goals as goal

pub returns : goal.returns
returns g c =
    let bytes = c.args.name.now in
    let name = made (fits_name bytes) (name_bytes c.in_ok-name.name) bytes c.in_ok-name.ensures in
    let refusal = rw name.1 at c.store.ensures.refusal in
    record { refusal = rw name.0 refusal; after = rw name.0 (rw (refusal, name.1) at c.store.ensures.after) }

pub returns-in_err-name : goal.returns-in_err-name
returns-in_err-name g c =
    let bytes = c.args.name.now in
    let error = err_from_is_err_and c.from_residual.result c.from_residual.ensures.1 in
    let name = refused (fits_name bytes) bytes c.in_err-name.field-0.0 c.in_err-name.ensures in
    record { refusal = rw (error.1, error.2, name.0, name.1) refl; after = rw name.0 refl }
