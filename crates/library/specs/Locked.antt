-- A library that nobody stores into.
use Rattle.std.specs.Prelude.{true, List}
use Rattle.library.specs.declared.lock.Lock.{Lock}
use Rattle.library.specs.declared.space.Space.{Space}
use Rattle.library.specs.Meaning.{Program, Library}

abbrev pub no_space : Space
no_space = record { programs = 0; strings = 0; bytes = 0 }

-- these programs, no space left, locked
abbrev pub locked_library : List Program → Library
locked_library ps = record { programs = ps; space = no_space; locked = true }

-- what a lock means over a library of that meaning: the programs of the library inside, no space, locked
abbrev pub lock_meaning : {R : Type 0} → (R → Library) → Lock R → Library
lock_meaning meaning lock = locked_library (meaning lock.inner).programs
