-- The parameters of a call from a place on, as invariants of loops over them. Assumes nothing.
use Rattle.std.proofs.Common.{◌≡◌, ℕ, ◌+◌, Bool, List, map, drop}
use Rattle.std.specs.List.{list_all}
use Rattle.library.specs.Keeping.{strings_bytes}
use Rattle.machine.specs.Texts.{Text, Code}
use Rattle.machine.specs.Dictionary.{Dictionary, look_up}
use Rattle.machine.specs.Libraries.{whole_body}

-- all behind the first pass the test if those from n on do
abbrev pub AllIfFrom : (Text → Bool) → List Text → ℕ → Type 0
AllIfFrom test ps n = list_all test (drop 1 ps) ≡ list_all test (drop n ps)

-- the bytes of names, and of the whole bodies of their strings
abbrev pub bytes_of : Code → Dictionary → List Text → ℕ
bytes_of code d names = strings_bytes (map (λ n. record { name = n; body = whole_body (look_up code d n) }) names)

-- what is left of a room, and the bytes of all, are the room and the bytes of those from n on
abbrev pub Left : Code → Dictionary → List Text → ℕ → ℕ → ℕ → Type 0
Left code d ps room left n = left + bytes_of code d (drop 1 ps) ≡ room + bytes_of code d (drop n ps)
