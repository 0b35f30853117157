-- The dictionary: which original built-ins stand, the strings and copied built-ins, and the classes of characters.
-- Assumes nothing.
use Rattle.std.specs.Prelude.{ℕ, ◌+◌, Bool, true, false, cond, not, ◌&&◌, List, [], ◌∷◌, map, length, drop, Some, None, sum_by, Option, slice_index_or}
use Rattle.std.specs.List.{range_with_len}
use Rattle.std.specs.Option.{option_or}
use Rattle.std.specs.Str.{bytes_eq}
use Rattle.machine.specs.declared.built_in.BuiltIn.{BuiltIn}
use Rattle.machine.specs.Texts.{Text, Code}
use Rattle.machine.specs.BuiltIns.{name_of, built_in_named}

-- a string. Its residual pointer says how many bytes of the body selection has passed
pub record Str : Type 0 where
  pub body : Text
  pub pointer : ℕ

-- the body from the pointer on
abbrev pub rest_of : Str → Text
rest_of s = drop s.pointer s.body

abbrev pub new_string : Text → Str
new_string body = record { body = body; pointer = 0 }

-- what a name means
pub data Meaning : Type 0 where
  built_in : BuiltIn → Meaning
  string : Str → Meaning

-- a string with its name; or a copied built-in with its name
pub record Row : Type 0 where
  pub name : Text
  pub meaning : Meaning

-- a class of characters: a set of bytes, as a flag for each of the 256
pub record Class : Type 0 where
  pub name : Text
  pub members : List Bool

abbrev pub class_of : (ℕ → Bool) → List Bool
class_of test = map test (range_with_len 0 256)

abbrev pub member : List Bool → ℕ → Bool
member members b = slice_index_or members b false

pub record Dictionary : Type 0 where
  -- does this built-in stand under its own name, as made?
  pub originals : BuiltIn → Bool
  pub rows : List Row
  pub classes : List Class

-- all built-ins, no string and no class
unfoldable pub new_dictionary : Dictionary
new_dictionary = record { originals = λ f. true; rows = []; classes = [] }

-- Rows, and classes, by their names: the first of a name counts.

abbrev pub in_rows : Text → List Row → Option Meaning
in_rows n [] = None
in_rows n (r ∷ rs) = cond (bytes_eq r.name n) (Some r.meaning) (in_rows n rs)

-- a row of that name means this now; a new name comes last
abbrev pub with_row : Text → Meaning → List Row → List Row
with_row n m [] = record { name = n; meaning = m } ∷ []
with_row n m (r ∷ rs) = cond (bytes_eq r.name n) (record { name = n; meaning = m } ∷ rs) (r ∷ with_row n m rs)

abbrev pub without_row : Text → List Row → List Row
without_row n [] = []
without_row n (r ∷ rs) = cond (bytes_eq r.name n) rs (r ∷ without_row n rs)

abbrev pub in_classes : Text → List Class → Option (List Bool)
in_classes n [] = None
in_classes n (c ∷ cs) = cond (bytes_eq c.name n) (Some c.members) (in_classes n cs)

abbrev pub with_class : Text → List Bool → List Class → List Class
with_class n m [] = record { name = n; members = m } ∷ []
with_class n m (c ∷ cs) = cond (bytes_eq c.name n) (record { name = n; members = m } ∷ cs) (c ∷ with_class n m cs)

abbrev pub without_class : Text → List Class → List Class
without_class n [] = []
without_class n (c ∷ cs) = cond (bytes_eq c.name n) cs (c ∷ without_class n cs)

-- The dictionary.

abbrev pub if_stands : (BuiltIn → Bool) → Option BuiltIn → Option Meaning
if_stands originals None = None
if_stands originals (Some f) = cond (originals f) (Some (built_in f)) None

-- what a name means: a string or a copied built-in, or else the built-in of that name, if it stands
abbrev pub look_up : Code → Dictionary → Text → Option Meaning
look_up code d n = option_or (in_rows n d.rows) (if_stands d.originals (built_in_named code n))

-- the built-ins that stand, but for the one of that name
abbrev pub without_original : Code → Text → (BuiltIn → Bool) → BuiltIn → Bool
without_original code n originals f = originals f && not (bytes_eq (name_of code f) n)

-- a name means this now; an original built-in of that name goes
abbrev pub define : Code → Text → Meaning → Dictionary → Dictionary
define code n m d = record { originals = without_original code n d.originals; rows = with_row n m d.rows; classes = d.classes }

-- a string that is there has changed
abbrev pub change : Text → Str → Dictionary → Dictionary
change n s d = record { originals = d.originals; rows = with_row n (string s) d.rows; classes = d.classes }

-- a name goes, whatever it means; an absent one is skipped
abbrev pub erase : Code → Text → Dictionary → Dictionary
erase code n d = record { originals = without_original code n d.originals; rows = without_row n d.rows; classes = d.classes }

abbrev pub with_classes : List Class → Dictionary → Dictionary
with_classes cs d = record { originals = d.originals; rows = d.rows; classes = cs }

-- What the dictionary takes.

-- strings and copied built-ins
abbrev pub names_in : Dictionary → ℕ
names_in d = length d.rows

abbrev pub body_of : Meaning → Text
body_of (built_in f) = []
body_of (string s) = s.body

-- the bytes of names and bodies, and of the names of classes
abbrev pub bytes_in : Dictionary → ℕ
bytes_in d =
    sum_by (λ (r : Row). length r.name + length (body_of r.meaning)) d.rows
    + sum_by (λ (c : Class). length c.name) d.classes
