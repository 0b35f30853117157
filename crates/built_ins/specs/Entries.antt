-- An entry of the table in code, as a row. Assumes nothing.
use Rattle.built_ins.specs.declared.table.BuiltInEntry.{BuiltInEntry}
use Rattle.built_ins.specs.Rows.{Row}

abbrev pub entry_row : BuiltInEntry → Row
entry_row e = record { function = e.function; letters = e.letters.now; least = e.least }
