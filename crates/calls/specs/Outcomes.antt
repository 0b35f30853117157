-- What the machine's functions come to, by their groups. Assumes nothing.
use Rattle.std.specs.Prelude.{List, []}
use Rattle.machine.specs.declared.built_in.BuiltIn.{BuiltIn}
use Rattle.machine.specs.declared.built_in.BuiltIn.TheVariants as group
use Rattle.machine.specs.declared.built_in.LibraryFunction.{LibraryFunction}
use Rattle.machine.specs.declared.built_in.LibraryFunction.TheVariants.{Store, Delete, Copy, Names, Pdf}
use Rattle.machine.specs.Texts.{Text, Code}
use Rattle.machine.specs.World.{World, Outcome, valued}
use Rattle.machine.specs.Strings.{on_dictionary}
use Rattle.machine.specs.Selection.{on_selection}
use Rattle.machine.specs.TextFunctions.{on_text}
use Rattle.machine.specs.Classes.{on_classes}
use Rattle.machine.specs.Arithmetic.{on_arithmetic}
use Rattle.machine.specs.Comparisons.{on_comparison}
use Rattle.machine.specs.Libraries.{store_program, delete_program, string_names, program_defined}
use Rattle.machine.specs.Functions.{on_others}

-- COPY puts questions between its definitions, so it comes to no outcome: nothing is said of it here
abbrev pub library_outcome : Code → LibraryFunction → List Text → World → Outcome
library_outcome code Store = store_program code
library_outcome code Delete = delete_program
library_outcome code Copy = λ ps. valued []
library_outcome code Names = string_names code
library_outcome code Pdf = program_defined

abbrev pub outcome_for : Code → BuiltIn → List Text → World → Outcome
outcome_for code (group.Dictionary f) = on_dictionary code f
outcome_for code (group.Selection f) = on_selection code f
outcome_for code (group.Text f) = on_text code f
outcome_for code (group.Class f) = on_classes code f
outcome_for code (group.Arithmetic f) = on_arithmetic code f
outcome_for code (group.Comparison f) = on_comparison code f
outcome_for code (group.Library f) = library_outcome code f
outcome_for code (group.Other f) = on_others code f
