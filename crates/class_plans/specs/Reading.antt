-- What is read of the class 1 and the string 2, as attempts at a value. Assumes nothing.
use Rattle.std.specs.Prelude.{◌≡◌, ℕ, Bool, List, take}
use Rattle.machine.specs.Texts.{Text, Code, without_marks}
use Rattle.machine.specs.Dictionary.{Str, rest_of}
use Rattle.machine.specs.Classes.{of_class, in_class, class_run, begins_with}
use Rattle.number.specs.Results.{Attempt}
use Rattle.dictionary.specs.Strings.{string_in}
use Rattle.class_plans.specs.declared.run.Run.{Run}

module _ (code : Code) (ps : List Text) where
  -- something that the members of the class and the string tell
  abbrev pub reading : {V : Type 0} → (List Bool → Str → V) → Attempt V
  reading tell w go = of_class code ps w (λ members s. go (tell members s))

  -- the string, and the length of the run of members that it begins with
  abbrev pub run_read : Attempt (Str × ℕ)
  run_read = reading (λ members s. (s, class_run code members s))

  -- does it begin with a member?
  abbrev pub beginning_read : Attempt Bool
  beginning_read = reading (λ members s. begins_with (in_class code members) (rest_of s))

-- a run, in the bytes of the store
abbrev pub run_in : List ℕ → Run → Str × ℕ
run_in store r = (string_in r.string store, r.len)

-- the bytes of a run
abbrev pub run_text : Str × ℕ → Text
run_text r = take r.1 (rest_of r.0)

abbrev pub HasNoMarks : Code → Str × ℕ → Type 0
HasNoMarks code r = without_marks code (run_text r) ≡ run_text r
