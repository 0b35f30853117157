use Rattle.std.proofs.Common.{◌+◌, ◌-◌, length, vec_items, vec_len, sym, subst, arith}
use Rattle.library.specs.Meaning.{Lawful}
use Rattle.library.specs.Keeping.{strings_bytes, space_of}
use Rattle.shelf.specs.Shelved.{programs_of, meaning_of}
use Rattle.shelf.proofs.Packed.{program_parts}
use Rattle.shelf.proofs.Laws.{lawful_added}
use Rattle.shelf.proofs.Gained.{gained, fits_parts}
use Rattle.shelf.proofs.Meant.{lawful_of, library_same}
use Rattle.shelf.proofs.shelf.Shelf.add.Goals as goal

pub invariant_of-self : goal.invariant_of-self
invariant_of-self g c =
    let s = c.args.self.now in
    let name = c.args.name.now in
    let strings = g.S.Source.strings c.args.strings.now in
    let space = fits_parts (space_of (program_parts name strings)) (meaning_of s).space c.requires.fitting in
    let after = gained s name strings c.count.result (vec_items c.push_reserved.new.self) (vec_items c.add_strings.new.rows) (vec_items c.append.new.bytes) (vec_items c.add_strings.new.bytes)
    c.count.ensures c.push_reserved.ensures.items c.add_strings.ensures.rows c.append.ensures.items c.add_strings.ensures.bytes in
    let lawful = subst Lawful (sym after.programs) (lawful_added (programs_of s) (program_parts name strings) (lawful_of s) c.requires.named c.requires.absent) in
    record {
      programs_reserved = omega arith;
      strings_reserved = omega arith;
      bytes_reserved = omega arith;
      programs_bounded = omega arith;
      strings_bounded = omega arith;
      bytes_bounded = omega arith;
      counted = omega arith;
      filled = omega arith;
      fit = lawful.fit;
      distinct = lawful.distinct;
    }

pub returns : goal.returns
returns g c =
    let s = c.args.self.now in
    let name = c.args.name.now in
    let strings = g.S.Source.strings c.args.strings.now in
    let space = fits_parts (space_of (program_parts name strings)) (meaning_of s).space c.requires.fitting in
    let after = gained s name strings c.count.result (vec_items c.push_reserved.new.self) (vec_items c.add_strings.new.rows) (vec_items c.append.new.bytes) (vec_items c.add_strings.new.bytes)
    c.count.ensures c.push_reserved.ensures.items c.add_strings.ensures.rows c.append.ensures.items c.add_strings.ensures.bytes in
    library_same _ _
    (32 - vec_len c.push_reserved.new.self) (32 - vec_len s.programs - 1)
    (128 - vec_len c.add_strings.new.rows) (128 - vec_len s.strings - length strings)
    (8192 - vec_len c.add_strings.new.bytes) (8192 - vec_len s.bytes - (length name + strings_bytes strings))
    after.programs (omega arith) (omega arith) (omega arith)
