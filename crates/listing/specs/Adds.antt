-- Text that a function puts at the end of a String. Assumes nothing.
use Rattle.std.specs.Prelude.{◌≡◌, ℕ, List, ◌++◌, string_bytes, Result, String, OnOk}

-- Where memory suffices, the String is as before with the text after it.
abbrev pub Adds : {Z X E : Type 0} → String Z → Result X E → String Z → List ℕ → Type 0
Adds before r after text = OnOk r (string_bytes after ≡ string_bytes before ++ text)
