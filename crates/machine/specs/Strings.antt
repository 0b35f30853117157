-- The functions on the dictionary: DS AP ES CF SS SC CR. Assumes nothing.
use Rattle.std.specs.Prelude.{ℕ, zero, suc, ◌+◌, ◌-◌, Bool, true, false, cond, List, [], ◌∷◌, ◌++◌, length, take, drop, pos, Some, None, Option, nat_le}
use Rattle.machine.specs.declared.built_in.DictionaryFunction.{DictionaryFunction}
use Rattle.machine.specs.declared.built_in.DictionaryFunction.TheVariants.{Ds, Ap, Es, Cf, Ss, Sc, Cr}
use Rattle.machine.specs.Texts.{Text, Code, not_empty, begins, highest_mark}
use Rattle.machine.specs.Faults.{no_name, not_a_string, no_mark_number}
use Rattle.machine.specs.Dictionary.{Dictionary, Meaning, built_in, string, Str, new_string, rest_of, look_up, define, change, erase}
use Rattle.machine.specs.Numbers.{written}
use Rattle.machine.specs.World.{World, with_dictionary, with_string, Outcome, faults, provided, changing, defining, of_string, p1, p2}

-- DS: p1 becomes the string p2
abbrev pub define_string : Code → List Text → World → Outcome
define_string code ps w = defining (define code (p1 ps) (string (new_string (p2 ps))) w.dictionary) w

-- AP: p2 behind the string p1, and the pointer at the new end; an absent p1 is defined
abbrev pub appended : Text → Str → Str
appended more s = record { body = s.body ++ more; pointer = length (s.body ++ more) }

abbrev pub append_to : Code → List Text → World → Option Meaning → Outcome
append_to code ps w None = define_string code ps w
append_to code ps w (Some (built_in f)) = faults not_a_string w
append_to code ps w (Some (string s)) = defining (change (p1 ps) (appended (p2 ps) s) w.dictionary) w

abbrev pub append_string : Code → List Text → World → Outcome
append_string code ps w = append_to code ps w (look_up code w.dictionary (p1 ps))

-- ES: each name goes
abbrev pub erase_all : Code → List Text → Dictionary → Dictionary
erase_all code [] d = d
erase_all code (n ∷ ns) d = erase_all code ns (erase code n d)

abbrev pub erase_strings : Code → List Text → World → Outcome
erase_strings code ps w = changing [] (with_dictionary (erase_all code ps w.dictionary) w)

-- CF: p1 becomes what p2 is, a string from its pointer on
abbrev pub copied_from : Meaning → Meaning
copied_from (built_in f) = built_in f
copied_from (string s) = string (new_string (rest_of s))

abbrev pub copy_to : Code → List Text → World → Option Meaning → Outcome
copy_to code ps w None = faults no_name w
copy_to code ps w (Some m) = defining (define code (p1 ps) (copied_from m) w.dictionary) w

abbrev pub copy_function : Code → List Text → World → Outcome
copy_function code ps w = copy_to code ps w (look_up code w.dictionary (p2 ps))

-- Marking. Matches are leftmost and do not overlap; `skip` bytes of the last match are still to be passed.

-- a text with the byte m for each match of p
abbrev pub marked_from : Text → ℕ → ℕ → Text → Text
marked_from p m skip [] = []
marked_from p m zero (b ∷ bs) = cond (begins p (b ∷ bs)) (m ∷ marked_from p m (length p - 1) bs) (b ∷ marked_from p m 0 bs)
marked_from p m (suc skip) (b ∷ bs) = marked_from p m skip bs

abbrev pub with_mark : Text → ℕ → Text → Text
with_mark p m t = cond (not_empty p) (marked_from p m 0 t) t

-- how many matches there are
abbrev pub matches_from : Text → ℕ → Text → ℕ
matches_from p skip [] = 0
matches_from p zero (b ∷ bs) = cond (begins p (b ∷ bs)) (suc (matches_from p (length p - 1) bs)) (matches_from p 0 bs)
matches_from p (suc skip) (b ∷ bs) = matches_from p skip bs

abbrev pub matches : Text → Text → ℕ
matches p t = cond (not_empty p) (matches_from p 0 t) 0

-- SS and SC: the substrings are marked one after the other, with the numbers from k on, found or not
pub record Segmented : Type 0 where
  pub marked_text : Text
  pub places : ℕ
  -- were there numbers enough?
  pub numbered : Bool

abbrev pub segment_from : Code → ℕ → List Text → ℕ → Text → Segmented
segment_from code k [] places t = record { marked_text = t; places = places; numbered = true }
segment_from code k (p ∷ ps) places t =
    cond (nat_le k 62)
    (segment_from code (suc k) ps (places + matches p t) (with_mark p (code.segment_mark k) t))
    (record { marked_text = t; places = places; numbered = false })

-- what is behind the pointer becomes t
abbrev pub with_rest : Text → Str → Str
with_rest t s = record { body = take s.pointer s.body ++ t; pointer = s.pointer }

-- the numbers go on from the highest in the whole body; 62 substrings are used
abbrev pub segmented : Code → List Text → Str → Segmented
segmented code ps s = segment_from code (suc (highest_mark code s.body)) (take 62 (drop 1 ps)) 0 (rest_of s)

-- where the numbers run out, the marks up to 62 stand
abbrev pub segment_string : Code → List Text → World → (ℕ → Text) → Outcome
segment_string code ps w value =
    of_string code (p1 ps) w (λ s.
    let g = segmented code ps s in
    let marked_world = with_string (p1 ps) (with_rest g.marked_text s) w in
    provided g.numbered no_mark_number marked_world (changing (value g.places) marked_world))

-- CR: the creation mark for each match of p2
abbrev pub mark_for_creation : Code → List Text → World → Outcome
mark_for_creation code ps w =
    of_string code (p1 ps) w (λ s.
    changing [] (with_string (p1 ps) (with_rest (with_mark (p2 ps) code.creation_mark (rest_of s)) s) w))

abbrev pub on_dictionary : Code → DictionaryFunction → List Text → World → Outcome
on_dictionary code Ds = define_string code
on_dictionary code Ap = append_string code
on_dictionary code Es = erase_strings code
on_dictionary code Cf = copy_function code
on_dictionary code Ss = λ ps w. segment_string code ps w (λ places. [])
on_dictionary code Sc = λ ps w. segment_string code ps w (λ places. written code (pos places))
on_dictionary code Cr = mark_for_creation code
