-- Texts, and the bytes in them. Assumes nothing.
use Rattle.std.specs.Prelude.{ℕ, suc, max, Bool, true, false, cond, not, ◌&&◌, List, [], ◌∷◌, map, is_some, Some, None, Option, ◌==◌, nat_lt}
use Rattle.std.specs.Option.{option_map, unwrap_or}
use Rattle.code.specs.Meaning.{CodeMeaning, marked, body_byte, rank_of}
use Rattle.std.specs.List.{filter, list_all}

abbrev pub Text : Type 0
Text = List ℕ

-- what a character code means; the machine asks nothing else of it
abbrev pub Code : Type 0
Code = CodeMeaning

-- named characters, given by their Unicode numbers, in the bytes of a code
abbrev pub spelled : Code → List ℕ → Text
spelled code chars = map code.named chars

-- the place of the first element that passes the test
abbrev pub first_place : {X : Type 0} → (X → Bool) → List X → Option ℕ
first_place f [] = None
first_place f (x ∷ xs) = cond (f x) (Some 0) (option_map suc (first_place f xs))

abbrev pub not_empty : {X : Type 0} → List X → Bool
not_empty [] = false
not_empty (x ∷ xs) = true

-- Marks. A text of the scan has none; the body of a string may.

-- a segment mark
abbrev pub segment : Code → ℕ → Bool
segment code b = is_some (code.mark_number b)

abbrev pub creation : Code → ℕ → Bool
creation code b = b == code.creation_mark

abbrev pub without_marks : Code → Text → Text
without_marks code t = filter (λ b. not (marked code b)) t

-- the highest number of a segment mark in a body, or 0 where it has none
abbrev pub highest_mark : Code → Text → ℕ
highest_mark code [] = 0
highest_mark code (b ∷ bs) = max (unwrap_or (code.mark_number b) 0) (highest_mark code bs)

-- What a library's texts may hold.

-- names: characters
abbrev pub proper_name : Code → Text → Bool
proper_name code t = list_all code.character t

-- bodies: characters, ends of lines and marks
abbrev pub proper_body : Code → Text → Bool
proper_body code t = list_all (body_byte code) t

-- Searching.

-- does the text begin with that one?
abbrev pub begins : Text → Text → Bool
begins [] t = true
begins (p ∷ ps) [] = false
begins (p ∷ ps) (b ∷ bs) = p == b && begins ps bs

-- where the sought text stands first; nothing is found of an empty one
abbrev pub found_at : Text → Text → Option ℕ
found_at p [] = None
found_at p (b ∷ bs) = cond (not_empty p && begins p (b ∷ bs)) (Some 0) (option_map suc (found_at p bs))

-- Comparing, by ranks. No text has a byte without a rank; such a one would rank as 0.

abbrev pub rank_in : Code → ℕ → ℕ
rank_in code b = unwrap_or (rank_of code b) 0

-- is the first text lower? A text that ends first is.
abbrev pub lower_text : Code → Text → Text → Bool
lower_text code t [] = false
lower_text code [] (b ∷ bs) = true
lower_text code (a ∷ as') (b ∷ bs) =
    cond (nat_lt (rank_in code a) (rank_in code b)) true
    (cond (nat_lt (rank_in code b) (rank_in code a)) false
    (lower_text code as' bs))
