-- A program name has 1 to 20 bytes.
use Rattle.std.proofs.Common.{arith, length-take-le}
use Rattle.library.specs.Meaning.{NameLength}
use Rattle.library.specs.Name.{name_bytes}
use Rattle.library.specs.declared.program_name.ProgramName.{ProgramName}

pub name_length : (n : ProgramName) → NameLength (name_bytes n)
name_length n = let e = length-take-le n.len n.bytes (omega arith) in (omega arith, omega arith)
