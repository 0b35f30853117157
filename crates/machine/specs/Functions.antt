-- A function that is called with its parameters: a built-in, or a string's value. Assumes nothing.
use Rattle.std.specs.Prelude.{ℕ, zero, suc, ◌+◌, ◌-◌, ◌/◌, ◌%◌, Bool, true, false, cond, List, [], ◌∷◌, length, is_some, Some, None, Option, ◌==◌, nat_le}
use Rattle.std.specs.List.{flat_map}
use Rattle.machine.specs.declared.built_in.BuiltIn.{BuiltIn}
use Rattle.machine.specs.declared.built_in.BuiltIn.TheVariants as group
use Rattle.machine.specs.declared.built_in.LibraryFunction.{LibraryFunction}
use Rattle.machine.specs.declared.built_in.LibraryFunction.TheVariants.{Store, Delete, Copy, Names, Pdf}
use Rattle.machine.specs.declared.built_in.OtherFunction.{OtherFunction}
use Rattle.machine.specs.declared.built_in.OtherFunction.TheVariants.{Ndf, Ps, Break}
use Rattle.machine.specs.Texts.{Text, Code, creation}
use Rattle.machine.specs.Faults.{undefined, too_few_parameters}
use Rattle.machine.specs.Chain.{Run, give, fault, number, ◌>>=◌}
use Rattle.machine.specs.BuiltIns.{least}
use Rattle.machine.specs.Dictionary.{Meaning, built_in, string, rest_of, look_up}
use Rattle.machine.specs.World.{World, print_more, text, break, nothing_more, print_only, Outcome, plans, valued, Ready, running, parameter, p1, p2, p3}
use Rattle.machine.specs.Strings.{on_dictionary}
use Rattle.machine.specs.Selection.{on_selection}
use Rattle.machine.specs.TextFunctions.{on_text}
use Rattle.machine.specs.Classes.{on_classes}
use Rattle.machine.specs.Arithmetic.{on_arithmetic}
use Rattle.machine.specs.Comparisons.{on_comparison}
use Rattle.machine.specs.Libraries.{store_program, delete_program, copy_program, string_names, program_defined, retrieving}
use Rattle.std.specs.List.{list_any}

-- NDF: p2 if the dictionary has the name p1, a built-in's too, else p3
abbrev pub name_defined : Code → List Text → World → Outcome
name_defined code ps w = valued (cond (is_some (look_up code w.dictionary (p1 ps))) (p2 ps) (p3 ps)) w

-- PS: the text is cut at each end of line, and then every 132 bytes; each piece, an empty one too, is printed with an end of
-- line. `room` bytes still fit the piece.
abbrev pub lines : ℕ → ℕ → Text → Text
lines e room [] = e ∷ []
lines e zero (b ∷ bs) = cond (b == e) (e ∷ lines e 132 bs) (e ∷ b ∷ lines e 131 bs)
lines e (suc room) (b ∷ bs) = cond (b == e) (e ∷ lines e 132 bs) (b ∷ lines e room bs)

abbrev pub print_string : Code → List Text → World → Outcome
print_string code ps w = plans (record { value = text []; after = print_more (lines code.end_of_line 132 (p1 ps)) w; asks = print_only })

-- BREAK: p1 becomes the right text
abbrev pub break_off : List Text → World → Outcome
break_off ps w = plans (record { value = break (p1 ps); after = w; asks = nothing_more })

abbrev pub on_others : Code → OtherFunction → List Text → World → Outcome
on_others code Ndf = name_defined code
on_others code Ps = print_string code
on_others code Break = break_off

abbrev pub on_library : Code → LibraryFunction → List Text → World → Run World Ready
on_library code Store ps w = running w (store_program code ps w)
on_library code Delete ps w = running w (delete_program ps w)
on_library code Copy ps w = copy_program code ps w
on_library code Names ps w = running w (string_names code ps w)
on_library code Pdf ps w = running w (program_defined ps w)

abbrev pub apply : Code → BuiltIn → List Text → World → Run World Ready
apply code (group.Dictionary f) ps w = running w (on_dictionary code f ps w)
apply code (group.Selection f) ps w = running w (on_selection code f ps w)
apply code (group.Text f) ps w = running w (on_text code f ps w)
apply code (group.Class f) ps w = running w (on_classes code f ps w)
apply code (group.Arithmetic f) ps w = running w (on_arithmetic code f ps w)
apply code (group.Comparison f) ps w = running w (on_comparison code f ps w)
apply code (group.Library f) ps w = on_library code f ps w
apply code (group.Other f) ps w = running w (on_others code f ps w)

-- A string's value: its body from the pointer on, with a parameter, or nothing, for each segment mark, and one created
-- number for each creation mark.

abbrev pub for_mark : Option ℕ → ℕ → List Text → Text
for_mark None b ps = b ∷ []
for_mark (Some k) b ps = parameter (k - 1) ps

abbrev pub for_byte : Code → List Text → Text → ℕ → Text
for_byte code ps created b = cond (creation code b) created (for_mark (code.mark_number b) b ps)

abbrev pub filled : Code → List Text → Text → Text → Text
filled code ps created t = flat_map (for_byte code ps created) t

-- a number in four digits
abbrev pub four_digits : Code → ℕ → Text
four_digits code n = code.named (48 + n / 1000 % 10) ∷ code.named (48 + n / 100 % 10) ∷ code.named (48 + n / 10 % 10) ∷ code.named (48 + n % 10) ∷ []

abbrev pub string_ready : Bool → Text → World → Ready
string_ready numbered v w = record { result = text v; after = w; kept = w; numbered = numbered }

abbrev pub string_value : Code → Text → List Text → World → Run World Ready
string_value code t ps w =
    cond (list_any (creation code) t)
    (number w (λ n. give (string_ready true (filled code ps (four_digits code n) t) w)))
    (give (string_ready false (filled code ps [] t) w))

-- The function of a name: sought in the dictionary, after retrieval.

abbrev pub perform : Code → Option Meaning → List Text → World → Run World Ready
perform code None ps w = fault undefined w
perform code (Some (built_in f)) ps w = cond (nat_le (least f) (length ps)) (apply code f ps w) (fault too_few_parameters w)
perform code (Some (string s)) ps w = string_value code (rest_of s) ps w

abbrev pub function : Code → Text → List Text → World → Run World Ready
function code n ps w = retrieving code n w >>= λ v. perform code (look_up code v.dictionary n) ps v
