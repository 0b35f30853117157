use Rattle.std.proofs.Common.{◌+◌, ◌-◌, length, vec_items, vec_len, sym, ap, ◌∙◌, subst, arith}
use Rattle.std.proofs.lemmas.Option.{slice_get_read}
use Rattle.library.specs.Meaning.{Lawful}
use Rattle.library.specs.Keeping.{strings_bytes, without_place}
use Rattle.shelf.specs.Shelved.{programs_of, meaning_of}
use Rattle.shelf.proofs.Laws.{lawful_removed}
use Rattle.shelf.proofs.Meant.{span_of, lawful_of, library_same}
use Rattle.shelf.proofs.Lost.{program_of, lost, freed}
use Rattle.shelf.proofs.shelf.Shelf.remove.Goals as goal

pub drain-requires-2-clause-start_le_end : goal.drain-requires-2-clause-start_le_end
drain-requires-2-clause-start_le_end c =
    let s = c.args.self.now in
    let span = span_of s c.args.program c.remove.result (slice_get_read (vec_items s.programs) _ c.args.program _ s.programs.ok.0 c.requires c.remove.ensures.value) in
    omega arith

pub invariant_of-self : goal.invariant_of-self
invariant_of-self c =
    let s = c.args.self.now in
    let p = c.args.program in
    let there = slice_get_read (vec_items s.programs) _ p _ s.programs.ok.0 c.requires c.remove.ensures.value in
    let left = lost s p _ c.place-start.result c.place-end.result (vec_items c.remove.new.self) (vec_items c.drop-drain.new.self.0) (vec_items c.drop-drain-2.new.self.0) there
    c.place-start.ensures.string c.place-end.ensures.string c.place-start.ensures.byte c.place-end.ensures.byte
    c.remove.ensures.by_index.2 (c.drop-drain.ensures.items ∙ c.drain.ensures.kept) (c.drop-drain-2.ensures.items ∙ c.drain-2.ensures.kept) in
    let span = span_of s p _ there in
    let lawful = subst Lawful (sym left.programs) (lawful_removed (programs_of s) p (lawful_of s)) in
    record {
      programs_reserved = omega arith;
      strings_reserved = omega (arith, c.drop-drain.ensures.capacity ∙ c.drain.ensures.capacity);
      bytes_reserved = omega (arith, c.drop-drain-2.ensures.capacity ∙ c.drain-2.ensures.capacity);
      programs_bounded = omega arith;
      strings_bounded = omega (arith, c.drop-drain.new.self.0.ok.0);
      bytes_bounded = omega (arith, c.drop-drain-2.new.self.0.ok.0);
      counted = omega (arith, c.drop-drain.new.self.0.ok.0);
      filled = omega (arith, c.drop-drain-2.new.self.0.ok.0);
      fit = lawful.fit;
      distinct = lawful.distinct;
    }

pub returns : goal.returns
returns c =
    let s = c.args.self.now in
    let p = c.args.program in
    let there = slice_get_read (vec_items s.programs) _ p _ s.programs.ok.0 c.requires c.remove.ensures.value in
    let left = lost s p _ c.place-start.result c.place-end.result (vec_items c.remove.new.self) (vec_items c.drop-drain.new.self.0) (vec_items c.drop-drain-2.new.self.0) there
    c.place-start.ensures.string c.place-end.ensures.string c.place-start.ensures.byte c.place-end.ensures.byte
    c.remove.ensures.by_index.2 (c.drop-drain.ensures.items ∙ c.drain.ensures.kept) (c.drop-drain-2.ensures.items ∙ c.drain-2.ensures.kept) in
    let span = span_of s p _ there in
    let free = freed s p _ there in
    library_same _ _
    (32 - vec_len c.remove.new.self) (32 - vec_len s.programs + 1)
    (128 - vec_len c.drop-drain.new.self.0) (128 - vec_len s.strings + length (program_of s p c.remove.result).strings)
    (8192 - vec_len c.drop-drain-2.new.self.0) (8192 - vec_len s.bytes + (length (program_of s p c.remove.result).name + strings_bytes (program_of s p c.remove.result).strings))
    left.programs (omega arith) (omega (arith, c.drop-drain.new.self.0.ok.0)) (omega (arith, c.drop-drain-2.new.self.0.ok.0))
    ∙ ap (without_place (meaning_of s) p) (sym free.there)
