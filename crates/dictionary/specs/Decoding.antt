-- What packed rows mean: rows have lengths only, and their bytes lie in the order of the rows, without gaps.
use Rattle.std.specs.Prelude.{ℕ, ◌+◌, List, [], ◌∷◌, take, drop}
use Rattle.machine.specs.Dictionary.{Meaning, string, built_in, Class}
use Rattle.machine.specs.Dictionary as machine
use Rattle.dictionary.specs.declared.rows.Row.{Row}
use Rattle.dictionary.specs.declared.rows.ClassRow.{ClassRow}
use Rattle.dictionary.specs.declared.rows.RowMeaning.{RowMeaning}
use Rattle.dictionary.specs.declared.rows.RowMeaning.TheVariants as stored

-- entries one behind the other: what is read of each at the front of the bytes, which takes so many of them
abbrev pub packed : {E X : Type 0} → (E → ℕ) → (E → List ℕ → X) → List E → List ℕ → List X
packed size read [] bytes = []
packed size read (e ∷ es) bytes = read e bytes ∷ packed size read es (drop (size e) bytes)

abbrev pub body_size : RowMeaning → ℕ
body_size (stored.String s) = s.length
body_size (stored.BuiltIn f) = 0

abbrev pub row_size : Row → ℕ
row_size r = r.name + body_size r.meaning

abbrev pub class_size : ClassRow → ℕ
class_size c = c.name

-- what a row means, whose body is at the front of the bytes
abbrev pub meaning_in : RowMeaning → List ℕ → Meaning
meaning_in (stored.String s) bytes = string (record { body = take s.length bytes; pointer = s.pointer })
meaning_in (stored.BuiltIn f) bytes = built_in f

abbrev pub row_in : Row → List ℕ → machine.Row
row_in r bytes = record { name = take r.name bytes; meaning = meaning_in r.meaning (drop r.name bytes) }

abbrev pub class_in : ClassRow → List ℕ → Class
class_in c bytes = record { name = take c.name bytes; members = c.members }
