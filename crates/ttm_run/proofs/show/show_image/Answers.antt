use Rattle.std.proofs.Common.{[], refl, ap, ◌∙◌}
use Rattle.std.proofs.lemmas.Result.{err_from_is_err_and}
use Rattle.library.specs.Meaning.{Library}
use Rattle.listing.specs.Listing.{listing}
use Rattle.image.specs.Opening.{image_library}
use Rattle.ttm_run.proofs.show.show_image.Goals as goal

pub returns-in_err-opened : goal.returns-in_err-opened
returns-in_err-opened g c =
    let p = err_from_is_err_and c.from_residual.result c.from_residual.ensures.1 in
    rw (p.1, p.2) (record { shown = tt; refused = (c.in_err-opened.ensures.opened (image_library [])).first_no })

pub returns-in_err-text : goal.returns-in_err-text
returns-in_err-text g c =
    let p = err_from_is_err_and c.from_residual-in_err-text.result c.from_residual-in_err-text.ensures.1 in
    rw (p.1, p.2) (record { shown = tt; refused = (c.in_ok-opened.ensures.opened (image_library [])).first_no })

pub returns : goal.returns
returns g c =
    let opened = c.in_ok-opened.ensures.opened (image_library []) in
    record {
      shown =
          c.in_ok-text.ensures
          ∙ ap (λ (l : Library). listing g.C.Code.meaning g.C.Glyphs.title g.C.Glyphs.glyph l) (opened.held refl);
      refused = opened.first_no;
    }
