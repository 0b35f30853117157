-- The functions that read a string from its residual pointer on: CC CN SN ISC SCN CP CS RRP EOS. Assumes nothing.
use Rattle.std.specs.Prelude.{ℕ, zero, suc, pred, ◌+◌, Bool, true, false, cond, not, ◌&&◌, List, [], ◌∷◌, length, take, Some, None, Option, ◌==◌, nat_le, unsigned_abs}
use Rattle.std.specs.Option.{option_map}
use Rattle.code.specs.Meaning.{marked}
use Rattle.machine.specs.declared.built_in.SelectionFunction.{SelectionFunction}
use Rattle.machine.specs.declared.built_in.SelectionFunction.TheVariants.{Cc, Cn, Sn, Isc, Scn, Cp, Cs, Rrp, Eos}
use Rattle.machine.specs.Texts.{Text, Code, segment, without_marks, not_empty, begins, found_at, first_place}
use Rattle.machine.specs.Faults.{no_integer, signed_integer, too_many_digits}
use Rattle.machine.specs.Dictionary.{Str, new_string, rest_of}
use Rattle.machine.specs.Numbers.{Numeral, read_integer}
use Rattle.machine.specs.World.{World, with_string, Outcome, faults, provided, valued, changing, of_string, p1, p2, p3, p4}

-- the pointer n bytes further on
abbrev pub moved : ℕ → Str → Str
moved n s = record { body = s.body; pointer = s.pointer + n }

-- the value v, and the pointer of the string n moves past k bytes
abbrev pub passing : Text → Str → ℕ → Text → World → Outcome
passing n s k v w = changing v (with_string n (moved k s) w)

-- CN: how many bytes it takes to pass n characters; all of them where there are fewer. Marks are neither counted nor stop it.
abbrev pub bytes_to_pass : Code → ℕ → Text → ℕ
bytes_to_pass code zero t = 0
bytes_to_pass code (suc n) [] = 0
bytes_to_pass code (suc n) (b ∷ bs) = suc (cond (marked code b) (bytes_to_pass code (suc n) bs) (bytes_to_pass code n bs))

abbrev pub call_characters : Code → ℕ → Text → World → Outcome
call_characters code n name w =
    of_string code name w (λ s.
    let k = bytes_to_pass code n (rest_of s) in
    passing name s k (without_marks code (take k (rest_of s))) w)

abbrev pub skip_characters : Code → ℕ → Text → World → Outcome
skip_characters code n name w = of_string code name w (λ s. passing name s (bytes_to_pass code n (rest_of s)) [] w)

-- a count: an integer without a sign, of at most 9 digits
abbrev pub if_count : Option Numeral → World → (ℕ → Outcome) → Outcome
if_count None w go = faults no_integer w
if_count (Some n) w go = provided (not n.signs) signed_integer w (provided (nat_le n.digits 9) too_many_digits w (go (unsigned_abs n.value)))

abbrev pub counted : Code → List Text → World → (ℕ → Text → World → Outcome) → Outcome
counted code ps w go = if_count (read_integer code (p1 ps)) w (λ n. go n (p2 ps) w)

-- ISC: if the rest begins with p1, p3 and the pointer moves past it; else p4
abbrev pub initial_scan : Code → List Text → World → Outcome
initial_scan code ps w =
    of_string code (p2 ps) w (λ s.
    cond (not_empty (p1 ps) && begins (p1 ps) (rest_of s))
    (passing (p2 ps) s (length (p1 ps)) (p3 ps) w)
    (valued (p4 ps) w))

-- SCN: what stands before the first p1, and the pointer moves past that; else p3
abbrev pub before_match : Code → List Text → Str → World → Option ℕ → Outcome
before_match code ps s w (Some k) = passing (p2 ps) s (k + length (p1 ps)) (without_marks code (take k (rest_of s))) w
before_match code ps s w None = valued (p3 ps) w

abbrev pub character_scan : Code → List Text → World → Outcome
character_scan code ps w = of_string code (p2 ps) w (λ s. before_match code ps s w (found_at (p1 ps) (rest_of s)))

-- what stands before place k, and the pointer moves past it; all where there is no such place
abbrev pub up_to : Code → Text → Str → World → Option ℕ → Outcome
up_to code n s w (Some k) = passing n s (suc k) (without_marks code (take k (rest_of s))) w
up_to code n s w None = passing n s (length (rest_of s)) (without_marks code (rest_of s)) w

-- CP: the place of the first `;` at level zero. `<` and `>` count levels, and `@` protects the byte after it.
abbrev pub zero_level : Code → Bool → ℕ → Text → Option ℕ
zero_level code protected level [] = None
zero_level code true level (b ∷ bs) = option_map suc (zero_level code false level bs)
zero_level code false level (b ∷ bs) =
    cond (b == code.named 64) (option_map suc (zero_level code true level bs))
    (cond (b == code.named 60) (option_map suc (zero_level code false (suc level) bs))
    (cond (b == code.named 62) (option_map suc (zero_level code false (pred level) bs))
    (cond (b == code.named 59 && level == 0) (Some 0)
    (option_map suc (zero_level code false level bs)))))

abbrev pub call_parameter : Code → List Text → World → Outcome
call_parameter code ps w = of_string code (p1 ps) w (λ s. up_to code (p1 ps) s w (zero_level code false 0 (rest_of s)))

-- CS: up to the next segment mark
abbrev pub call_segment : Code → List Text → World → Outcome
call_segment code ps w = of_string code (p1 ps) w (λ s. up_to code (p1 ps) s w (first_place (segment code) (rest_of s)))

-- RRP: the pointer back at the start
abbrev pub reset_pointer : Code → List Text → World → Outcome
reset_pointer code ps w = of_string code (p1 ps) w (λ s. changing [] (with_string (p1 ps) (new_string s.body) w))

-- EOS: p2 if nothing is left behind the pointer, not even a mark; else p3
abbrev pub end_of_string : Code → List Text → World → Outcome
end_of_string code ps w = of_string code (p1 ps) w (λ s. valued (cond (not_empty (rest_of s)) (p3 ps) (p2 ps)) w)

abbrev pub on_selection : Code → SelectionFunction → List Text → World → Outcome
on_selection code Cc = λ ps w. call_characters code 1 (p1 ps) w
on_selection code Cn = λ ps w. counted code ps w (call_characters code)
on_selection code Sn = λ ps w. counted code ps w (skip_characters code)
on_selection code Isc = initial_scan code
on_selection code Scn = character_scan code
on_selection code Cp = call_parameter code
on_selection code Cs = call_segment code
on_selection code Rrp = reset_pointer code
on_selection code Eos = end_of_string code
