use Rattle.std.proofs.Common.{sym}
use Rattle.image.specs.Contents.{entries_of_rows}
use Rattle.image.proofs.Granting.{sound_contents, lawful_contents}
use Rattle.image.proofs.granted.Image.admit.Goals as goal

pub invariant_of-result : goal.invariant_of-result
invariant_of-result g c =
    let contents = c.in_ok-contents.contents in
    let es = entries_of_rows contents.entries.now in
    let sound = sound_contents g.C.Code.meaning es contents.texts.now (sym c.in_ok-check.ensures) in
    let lawful = lawful_contents es contents.texts.now c.in_ok-contents.ensures.fields sound.named sound.grouped in
    record { filled = sound.filled; fit = lawful.fit; distinct = lawful.distinct }
