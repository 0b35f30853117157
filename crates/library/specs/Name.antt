-- The name of a program.
use Rattle.std.specs.Prelude.{◌≡◌, ℕ, Bool, cond, ◌&&◌, List, length, take, nat_le, Ok, Err, Result}
use Rattle.std.specs.Borrow.{Bor}
use Rattle.std.specs.Result.{result_map_both}
use Rattle.refusal.specs.declared.Refusal.{Refusal}
use Rattle.refusal.specs.declared.Refusal.TheVariants.{ProgramNameLength}
use Rattle.library.specs.declared.program_name.ProgramName.{ProgramName}

-- the bytes of a name
abbrev pub name_bytes : ProgramName → List ℕ
name_bytes n = take n.len n.bytes

-- whether bytes can be a name: 1 to 20 of them
abbrev pub fits_name : List ℕ → Bool
fits_name bytes = nat_le 1 (length bytes) && nat_le (length bytes) 20

-- the name made of bytes, or the refusal of bytes that can be none
abbrev pub NamedBy : Bor (List ℕ) → Result ProgramName Refusal → Type 0
NamedBy bytes r = result_map_both name_bytes (λ e. e) r ≡ cond (fits_name bytes.now) (Ok bytes.now) (Err ProgramNameLength)
