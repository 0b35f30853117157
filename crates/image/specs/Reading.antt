-- What the code's views of an image mean.
use Rattle.std.specs.Prelude.{List}
use Rattle.image.specs.declared.entry.Entry.{Entry as EntryView}
use Rattle.image.specs.declared.line.Line.{Line as LineView}
use Rattle.image.specs.declared.line.Lines.{Lines as LinesIterator}
use Rattle.library.specs.Views.{string_viewed}
use Rattle.image.specs.Lines.{Line, line}
use Rattle.image.specs.Layout.{Entry}
use Rattle.image.specs.Contents.{first_entry, entries_of_rows, lines}

abbrev pub entry_read : EntryView → Entry
entry_read e = first_entry e.bytes.now

abbrev pub line_read : LineView → Line
line_read l = line l.program.now (string_viewed l.string)

-- the lines that an iterator has left
abbrev pub lines_left : LinesIterator → List Line
lines_left l = lines (entries_of_rows l.entries.now) l.texts.now
