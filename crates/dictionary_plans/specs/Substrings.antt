-- The substrings of a call of SS or SC. Assumes nothing.
use Rattle.std.specs.Prelude.{List, take, drop}
use Rattle.machine.specs.Texts.{Text}

-- the parameters behind the first, 62 at most
abbrev pub substrings : List Text → List Text
substrings ps = take 62 (drop 1 ps)
