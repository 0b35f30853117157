-- Programs as the code views them.
use Rattle.std.specs.Prelude.{ℕ, List, take, drop}
use Rattle.library.specs.Meaning.{Program}
use Rattle.image.specs.declared.program.ProgramView.{ProgramView}
use Rattle.image.specs.declared.program.Programs.{Programs}
use Rattle.image.specs.Contents.{entries_of_rows, text_sizes, lines, strings_of, programs_of_rows}

-- the texts behind those of the first rows
abbrev pub texts_behind : List (List ℕ) → List ℕ → List ℕ
texts_behind rows texts = drop (text_sizes (entries_of_rows rows)) texts

abbrev pub program_viewed : ProgramView → Program
program_viewed v = record {
  name = v.name.now;
  strings = strings_of (lines (entries_of_rows v.entries.now) (texts_behind v.before.now v.texts.now));
}

-- the programs that an iterator has left
abbrev pub programs_left : Programs → List Program
programs_left p =
    let contents = p.image.contents in
    programs_of_rows (drop p.start contents.entries.now) (texts_behind (take p.start contents.entries.now) contents.texts.now)
