-- What a dictionary takes. Assumes nothing.
use Rattle.std.specs.Prelude.{◌≡◌, ℕ, ◌-◌, ◌^◌, length, min}
use Rattle.machine.specs.Dictionary.{Dictionary, names_in, bytes_in}
use Rattle.dictionary.specs.declared.amounts.Needs.{Needs}
use Rattle.dictionary.specs.declared.amounts.ClassNeeds.{ClassNeeds}

-- a number of bytes as far as a usize has it
abbrev pub capped : ℕ → ℕ
capped n = min n (2 ^ 64 - 1)

-- this is what the dictionary takes
pub record Takes (needs : Needs) (d : Dictionary) : Type 0 where
  pub names : needs.names ≡ names_in d
  pub bytes : needs.bytes ≡ capped (bytes_in d)

pub record TakesClasses (needs : ClassNeeds) (d : Dictionary) : Type 0 where
  pub classes : needs.classes ≡ length d.classes
  pub bytes : needs.bytes ≡ capped (bytes_in d)
