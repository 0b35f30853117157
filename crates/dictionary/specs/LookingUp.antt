-- What a name is found to mean.
use Rattle.std.specs.Prelude.{ℕ, List, ⊤}
use Rattle.machine.specs.Texts.{Text}
use Rattle.machine.specs.Dictionary.{string, built_in}
use Rattle.machine.specs.Dictionary as machine
use Rattle.dictionary.specs.declared.dictionary.Dictionary.{Dictionary}
use Rattle.dictionary.specs.declared.finding.Place.{Place}
use Rattle.dictionary.specs.declared.meaning.Meaning.{Meaning}
use Rattle.dictionary.specs.declared.meaning.Meaning.TheVariants as found
use Rattle.dictionary.specs.declared.rows.RowMeaning.{RowMeaning}
use Rattle.dictionary.specs.declared.rows.RowMeaning.TheVariants as stored
use Rattle.dictionary.specs.Finding.{Standing}
use Rattle.dictionary.specs.Strings.{place_of, string_in}

-- the meaning, in the bytes of the store
abbrev pub shown : List ℕ → Meaning → machine.Meaning
shown store (found.BuiltIn f) = built_in f
shown store (found.String s) = string (string_in s store)

-- the string is that of the first row of the name
abbrev pub FoundAt : Dictionary → List ℕ → Text → Meaning → Type 0
FoundAt d store name (found.BuiltIn f) = ⊤
FoundAt d store name (found.String s) = Standing d store name (place_of s)

-- what a row means
abbrev pub meaning_at : Place → RowMeaning → Meaning
meaning_at p (stored.String e) = found.String (record { index = p.index; start = p.start; name = p.row.name; extent = e })
meaning_at p (stored.BuiltIn f) = found.BuiltIn f

abbrev pub meaning_of : Place → Meaning
meaning_of p = meaning_at p p.row.meaning
