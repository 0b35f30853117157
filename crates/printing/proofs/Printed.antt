-- A text printed piece by piece.
use Rattle.std.proofs.Common.{◌≡◌, ◌++◌, length, sym, ap, ◌∙◌, arith}
use Rattle.std.proofs.lemmas.List.{append_assoc, length-append, length-take-le}
use Rattle.machine.specs.Texts.{Text}
use Rattle.text_area.specs.declared.text_area.TextArea.{TextArea}
use Rattle.text_area.specs.Shown.{text_of, HasRoom, Becomes}

-- what has been printed and what is left are the whole, behind the text that was there, and all of it fits
pub record PrintedSoFar (start now : TextArea) (left whole : Text) : Type 0 where
  pub so_far : text_of now ++ left ≡ text_of start ++ whole
  pub fits : HasRoom (length left) now
  pub same_loan : now.area.ghost_name ≡ start.area.ghost_name
  pub same_size : length now.area.now ≡ length start.area.now

-- one piece more
pub piece_more : {start now after : TextArea} {left whole : Text} (piece rest : Text) → PrintedSoFar start now left whole → left ≡ piece ++ rest → Becomes now after (text_of now ++ piece)
    → PrintedSoFar start after rest whole
piece_more {start} {now} {after} {left} {whole} piece rest so cut b = record {
  so_far = ap (λ t. t ++ rest) b.text_is ∙ append_assoc (text_of now) piece rest ∙ ap (λ t. text_of now ++ t) (sym cut) ∙ so.so_far;
  fits = omega (arith, so.fits, ap length cut ∙ length-append piece rest, b.len_is ∙ length-append (text_of now) piece, length-take-le now.len now.area.now now.within, b.same_size);
  same_loan = b.same_loan ∙ so.same_loan;
  same_size = b.same_size ∙ so.same_size;
}
