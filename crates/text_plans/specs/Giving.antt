-- The bytes that GN gives, as a value. Assumes nothing.
use Rattle.std.specs.Prelude.{suc, ℤ, pos, negsuc}
use Rattle.value.specs.declared.value.Value.{Value}
use Rattle.value.specs.declared.value.Value.TheVariants.{Front, Behind}

abbrev pub given_bytes : ℤ → Value
given_bytes (pos n) = Front 1 n
given_bytes (negsuc n) = Behind 1 (suc n)
