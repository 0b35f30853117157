-- The strings that a script hands over to be stored.
use Rattle.std.specs.Prelude.{List, map, vec_items}
use Rattle.library.specs.Meaning.{NamedString}
use Rattle.library_cases.specs.declared.strings.Text.{Text}
use Rattle.library_cases.specs.declared.strings.Strings.{Strings}

abbrev pub named : Text → NamedString
named t = record { name = vec_items t.name; body = vec_items t.body }

abbrev pub handed : Strings → List NamedString
handed s = map named (vec_items s.texts)
