-- The functions on classes of characters: DCL DNCL ECL CCL SCL TCL. Assumes nothing.
use Rattle.std.specs.Prelude.{ℕ, Bool, false, cond, not, ◌&&◌, List, [], ◌∷◌, length, take, Some, None, Option, nat_eq, nat_le}
use Rattle.code.specs.Meaning.{ranked, marked}
use Rattle.machine.specs.declared.built_in.ClassFunction.{ClassFunction}
use Rattle.machine.specs.declared.built_in.ClassFunction.TheVariants.{Dcl, Dncl, Ecl, Ccl, Scl, Tcl}
use Rattle.machine.specs.Texts.{Text, Code}
use Rattle.machine.specs.Faults.{no_class, too_many_classes}
use Rattle.machine.specs.Dictionary.{Class, class_of, member, in_classes, with_class, without_class, with_classes, Str, rest_of}
use Rattle.machine.specs.Selection.{passing}
use Rattle.machine.specs.World.{World, with_dictionary, text, store_only, Outcome, plans, faults, provided, valued, changing, of_string, p1, p2, p3, p4}
use Rattle.std.specs.List.{list_any, prefix_len}

abbrev pub has_byte : Text → ℕ → Bool
has_byte t b = list_any (nat_eq b) t

-- DCL: the bytes of a text; DNCL: the characters and the end of line, but those of a text
abbrev pub the_bytes : Text → ℕ → Bool
the_bytes t b = has_byte t b

abbrev pub all_but : Code → Text → ℕ → Bool
all_but code t b = ranked code b && not (has_byte t b)

-- there are at most 16 classes
abbrev pub define_class : List Text → (ℕ → Bool) → World → Outcome
define_class ps test w =
    let cs = with_class (p1 ps) (class_of test) w.dictionary.classes in
    provided (nat_le (length cs) 16) too_many_classes w
    (plans (record { value = text []; after = with_dictionary (with_classes cs w.dictionary) w; asks = store_only }))

-- ECL: each class goes; absent ones are skipped
abbrev pub erase_classes : List Text → List Class → List Class
erase_classes [] cs = cs
erase_classes (n ∷ ns) cs = erase_classes ns (without_class n cs)

-- the class p1 and the string p2
abbrev pub if_class : Option (List Bool) → World → (List Bool → Outcome) → Outcome
if_class None w go = faults no_class w
if_class (Some members) w go = go members

abbrev pub of_class : Code → List Text → World → (List Bool → Str → Outcome) → Outcome
of_class code ps w go = if_class (in_classes (p1 ps) w.dictionary.classes) w (λ members. of_string code (p2 ps) w (go members))

-- no mark is in a class
abbrev pub in_class : Code → List Bool → ℕ → Bool
in_class code members b = member members b && not (marked code b)

-- CCL and SCL: the longest run of members, and the pointer moves past it
abbrev pub class_run : Code → List Bool → Str → ℕ
class_run code members s = prefix_len (in_class code members) (rest_of s)

abbrev pub call_class : Code → List Text → World → Outcome
call_class code ps w = of_class code ps w (λ members s. passing (p2 ps) s (class_run code members s) (take (class_run code members s) (rest_of s)) w)

abbrev pub skip_class : Code → List Text → World → Outcome
skip_class code ps w = of_class code ps w (λ members s. passing (p2 ps) s (class_run code members s) [] w)

-- TCL: p3 if the rest begins with a member, else p4
abbrev pub begins_with : (ℕ → Bool) → Text → Bool
begins_with test [] = false
begins_with test (b ∷ bs) = test b

abbrev pub test_class : Code → List Text → World → Outcome
test_class code ps w = of_class code ps w (λ members s. valued (cond (begins_with (in_class code members) (rest_of s)) (p3 ps) (p4 ps)) w)

abbrev pub on_classes : Code → ClassFunction → List Text → World → Outcome
on_classes code Dcl = λ ps w. define_class ps (the_bytes (p2 ps)) w
on_classes code Dncl = λ ps w. define_class ps (all_but code (p2 ps)) w
on_classes code Ecl = λ ps w. changing [] (with_dictionary (with_classes (erase_classes ps w.dictionary.classes) w.dictionary) w)
on_classes code Ccl = call_class code
on_classes code Scl = skip_class code
on_classes code Tcl = test_class code
