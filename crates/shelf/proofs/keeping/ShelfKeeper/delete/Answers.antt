use Rattle.std.proofs.Common.{vec_items, ap, ◌∙◌, arith}
use Rattle.std.specs.Result.{result_ok}
use Rattle.shelf.specs.Shelved.{programs_of}
use Rattle.shelf.proofs.Packed.{length_decoded}
use Rattle.shelf.proofs.Laws.{named_within}
use Rattle.shelf.proofs.keeping.ShelfKeeper.delete.Goals as goal

pub remove-requires : goal.remove-requires
remove-requires c =
    let s = c.args.self.now in
    let named = c.find_program.ensures.found c.in_ok-program.program (c.ok_or.ensures.ok_part ∙ ap result_ok c.in_ok-program.was) in
    omega (arith, s.programs.ok.0, length_decoded (vec_items s.programs) (vec_items s.strings) (vec_items s.bytes), named_within (programs_of s) _ _ named)
