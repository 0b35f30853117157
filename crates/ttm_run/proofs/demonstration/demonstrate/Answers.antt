use Rattle.std.proofs.Common.{[], string_bytes, refl, ap}
use Rattle.std.proofs.lemmas.Result.{err_from_is_err_and}
use Rattle.library.specs.Meaning.{Library}
use Rattle.library.specs.Locked.{lock_meaning}
use Rattle.image.specs.Granting.{meaning_of as image_meaning}
use Rattle.image.specs.Opening.{programs_of, image_library}
use Rattle.shelf.specs.Shelved.{meaning_of as shelf_meaning, empty_library}
use Rattle.exchange.specs.Stopping.{first_refusal}
use Rattle.ttm_run.specs.Filling.{filling}
use Rattle.ttm_run.specs.Demonstration.{draft}
use Rattle.ttm_run.proofs.Shelving.{image_refused, shelf_failed, none_refused, same_shown}
use Rattle.ttm_run.proofs.demonstration.demonstrate.Goals as goal

pub returns-in_err-opened : goal.returns-in_err-opened
returns-in_err-opened c =
    let r = err_from_is_err_and c.from_residual.result c.from_residual.ensures.1 in
    rw (r.1, r.2) (record { shown = tt; refused = image_refused c.in_err-opened.field-0.0 _ _ (c.in_err-opened.ensures.opened (image_library [])).first_no })

pub returns-in_err-shelf : goal.returns-in_err-shelf
returns-in_err-shelf c =
    let r = err_from_is_err_and c.from_residual-in_err-shelf.result c.from_residual-in_err-shelf.ensures.1 in
    let opened = c.in_ok-opened.ensures.opened (image_library []) in
    let same = ap (λ (l : Library). first_refusal empty_library (filling 2 draft l.programs)) (opened.held refl) in
    rw (r.1, r.2) (record { shown = tt; refused = shelf_failed c.in_err-shelf.field-0.0 _ _ _ opened.first_no same c.in_err-shelf.ensures.refused })

pub returns-in_err-push_both : goal.returns-in_err-push_both
returns-in_err-push_both c =
    let r = err_from_is_err_and c.from_residual-in_err-push_both.result c.from_residual-in_err-push_both.ensures.1 in
    rw (r.1, r.2) (record { shown = tt; refused = tt })

pub returns : goal.returns
returns c =
    let opened = c.in_ok-opened.ensures.opened (image_library []) in
    let shelf = c.in_ok-shelf.ensures in
    let same = ap (λ (l : Library). first_refusal empty_library (filling 2 draft l.programs)) (opened.held refl) in
    record {
      shown = same_shown (image_meaning c.in_ok-opened.opened) (lock_meaning shelf_meaning c.in_ok-shelf.shelf) (programs_of c.args.image.now) (string_bytes c.new-text.result) (string_bytes c.push_both.new.out) c.new-text.ensures.bytes (opened.held refl) shelf.same c.in_ok-push_both.ensures;
      refused = none_refused _ _ _ opened.first_no same shelf.refused;
    }
