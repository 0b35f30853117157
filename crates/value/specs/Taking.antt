-- What a value names in its sources.
use Rattle.std.specs.Prelude.{⊤}
use Rattle.code.specs.declared.Code.{Ghosts as OfCode}
use Rattle.library.specs.declared.reader.Reader.{Ghosts as OfReader}
use Rattle.machine.specs.Texts.{Text}
use Rattle.dictionary.specs.Finding.{RowAt}
use Rattle.dictionary.specs.Strings.{place_of}
use Rattle.value.specs.declared.sources.Sources.{Sources}
use Rattle.value.specs.declared.value.Value.{Value}
use Rattle.value.specs.declared.value.Value.TheVariants.{Nothing, Parameter, Front, Behind, Reversed, Lowered, Number, Length, Passed, Filled, Names}
use Rattle.value.specs.Texts.{value_text}

-- its text
abbrev pub text_from : {C R : Type 0} {code : OfCode C} {reader : OfReader R} → Sources C R code reader → Value → Text
text_from {C} {R} {code} {reader} s v = value_text code.meaning s.parameters.now s.store.now (reader.meaning s.library.now) v

-- its string stands in the dictionary
abbrev pub Stands : {C R : Type 0} {code : OfCode C} {reader : OfReader R} → Sources C R code reader → Value → Type 0
Stands sources Nothing = ⊤
Stands sources (Parameter n) = ⊤
Stands sources (Front n len) = ⊤
Stands sources (Behind n len) = ⊤
Stands sources (Reversed n) = ⊤
Stands sources (Lowered n) = ⊤
Stands sources (Number z) = ⊤
Stands sources (Length n) = ⊤
Stands sources (Passed s len) = RowAt sources.dictionary.now (place_of s)
Stands sources (Filled s created) = RowAt sources.dictionary.now (place_of s)
Stands sources (Names p) = ⊤
