-- What is read, or why nothing is.
use Rattle.std.specs.Prelude.{◌≡◌, Some, None, Option, Ok, Err, Result, ⊤}
use Rattle.library_cases.specs.declared.read_error.ReadError.{ReadError}
use Rattle.library_cases.specs.declared.read_error.ReadError.TheVariants.{BadLine, NoMemory}

-- Where memory suffices, what is read is what the words hold, and the line is bad where they hold none.
abbrev pub Reads : {X Y : Type 0} → (X → Y) → Result X ReadError → Option Y → Type 0
Reads f (Ok x) held = Some (f x) ≡ held
Reads f (Err BadLine) held = None ≡ held
Reads f (Err (NoMemory e)) held = ⊤
