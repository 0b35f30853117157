-- The text of a value. Assumes nothing.
use Rattle.std.specs.Prelude.{ℕ, ◌-◌, ◌^◌, ◌==◌, cond, List, [], ◌∷◌, map, reverse, length, take, drop, min, pos, Some, None, Option}
use Rattle.library.specs.Meaning.{Library, NamedString, program_at, strings_of}
use Rattle.machine.specs.Texts.{Text, Code, without_marks}
use Rattle.machine.specs.Numbers.{written}
use Rattle.machine.specs.Dictionary.{rest_of}
use Rattle.machine.specs.World.{parameter}
use Rattle.machine.specs.Functions.{filled, four_digits}
use Rattle.machine.specs.Libraries.{with_commas}
use Rattle.dictionary.specs.Strings.{string_in}
use Rattle.value.specs.declared.value.Value.{Value}
use Rattle.value.specs.declared.value.Value.TheVariants.{Nothing, Parameter, Front, Behind, Reversed, Lowered, Number, Length, Passed, Filled, Names}

-- a created number, or nothing where there is none
abbrev pub created_text : Code → Option ℕ → Text
created_text code None = []
created_text code (Some n) = four_digits code n

-- the names of a program's strings; none past the last program
abbrev pub names_of : Library → ℕ → List Text
names_of library p = map (λ (s : NamedString). s.name) (strings_of (program_at library.programs p))

-- the text that a value names, in a code, of parameters, the bytes of a store and a library
abbrev pub value_text : Code → List Text → List ℕ → Library → Value → Text
value_text code ps store library Nothing = []
value_text code ps store library (Parameter n) = parameter n ps
value_text code ps store library (Front n len) = take len (parameter n ps)
value_text code ps store library (Behind n len) = drop len (parameter n ps)
value_text code ps store library (Reversed n) = reverse (parameter n ps)
value_text code ps store library (Lowered n) = map code.lower (parameter n ps)
value_text code ps store library (Number z) = written code z
value_text code ps store library (Length n) = written code (pos (length (parameter n ps)))
value_text code ps store library (Passed s len) = without_marks code (take len (rest_of (string_in s store)))
value_text code ps store library (Filled s created) = filled code ps (created_text code created) (rest_of (string_in s store))
value_text code ps store library (Names p) = with_commas (code.named 44) (names_of library p)

-- a name with the comma before it; the first has none
abbrev pub joined_name : ℕ → ℕ → Text → Text
joined_name comma place name = cond (place == 0) name (comma ∷ name)

-- a length as far as a usize has it
abbrev pub capped : ℕ → ℕ
capped n = min n (2 ^ 64 - 1)
