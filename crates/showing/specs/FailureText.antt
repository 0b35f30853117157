-- What is said where an image is not shown.
use Rattle.std.specs.Prelude.{ℕ, List, ◌++◌, codes, decimal}
use Rattle.refusal.specs.Names.{name_of}
use Rattle.refusal.specs.Numbers.{number_of}
use Rattle.showing.specs.declared.failure.Failure.{Failure}
use Rattle.showing.specs.declared.failure.Failure.TheVariants.{Refused, NoMemory}

-- the refusal by its number and its name, or want of memory
abbrev pub failure_text : Failure → List ℕ
failure_text (Refused refusal) = codes "refused " ++ decimal (number_of refusal) ++ codes ": " ++ name_of refusal
failure_text NoMemory = codes "no memory"
