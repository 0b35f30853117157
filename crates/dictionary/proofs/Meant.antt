-- What a dictionary means, by its parts.
use Rattle.std.proofs.Common.{◌≡◌, ℕ, Bool, true, List, [], ap, ◌∙◌}
use Rattle.machine.specs.declared.built_in.BuiltIn.{BuiltIn}
use Rattle.machine.specs.Texts.{Text, Code}
use Rattle.machine.specs.Dictionary.{Dictionary, Row, Class, Meaning, new_dictionary, without_original, with_row, define}
use Rattle.dictionary.specs.declared.dictionary.Dictionary.{Dictionary as Held}
use Rattle.dictionary.specs.Meant.{stands, rows_in, classes_in, dictionary_in}
use Rattle.dictionary.specs.Editing.{RowsEdited, with_rows}

abbrev pub parts : (BuiltIn → Bool) → List Row → List Class → Dictionary
parts originals rows classes = record { originals = originals; rows = rows; classes = classes }

pub same_parts : (o p : BuiltIn → Bool) (rs ss : List Row) (cs ds : List Class) → ((f : BuiltIn) → o f ≡ p f) → rs ≡ ss → cs ≡ ds → parts o rs cs ≡ parts p ss ds
same_parts o p rs ss cs ds eo er ec = λ i. parts (λ f. eo f i) (er i) (ec i)

pub as_new : (flags : List Bool) (rs : List Row) (cs : List Class) → ((f : BuiltIn) → stands flags f ≡ true) → rs ≡ [] → cs ≡ [] → parts (stands flags) rs cs ≡ new_dictionary
unfolding new_dictionary
as_new flags rs cs e er ec = same_parts (stands flags) (λ f. true) rs [] cs [] e er ec

-- a dictionary whose rows alone are edited
pub rows_edited : (d e : Held) (store after : List ℕ) (rows : List Row) → RowsEdited d e store after → rows_in e after ≡ rows → dictionary_in e after ≡ with_rows rows (dictionary_in d store)
rows_edited d e store after rows others rows_are =
    same_parts (stands e.originals) (stands d.originals) (rows_in e after) rows (classes_in e after) (classes_in d store)
    (λ f. ap (λ flags. stands flags f) others.originals) rows_are others.classes

-- the same originals, and rows and classes that are known
pub other_lists : (o : BuiltIn → Bool) (rs ss : List Row) (cs ds : List Class) → rs ≡ ss → cs ≡ ds → parts o rs cs ≡ parts o ss ds
other_lists o rs ss cs ds er ec = λ i. parts o (er i) (ec i)

-- a name that means this now, and whose original is gone
pub defined : (code : Code) (n : Text) (m : Meaning) (d e : Held) (store after : List ℕ) (flags : List Bool) → ((f : BuiltIn) → stands flags f ≡ without_original code n (stands d.originals) f) → e.originals ≡ flags → rows_in e after ≡ with_row n m (rows_in d store) → classes_in e after ≡ classes_in d store → dictionary_in e after ≡ define code n m (dictionary_in d store)
defined code n m d e store after flags gone flags_are rows_are classes_are =
    same_parts (stands e.originals) (without_original code n (stands d.originals)) (rows_in e after) _ (classes_in e after) (classes_in d store)
    (λ f. ap (λ x. stands x f) flags_are ∙ gone f) rows_are classes_are
