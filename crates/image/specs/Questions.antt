-- The questions put to an image, in their order; the first that says no gives the refusal.
use Rattle.std.specs.Prelude.{ℕ, ◌*◌, Bool, true, cond, not, ◌&&◌, ◌||◌, List, [], ◌∷◌, map, length, take, drop, Some, None, Option, ◌==◌, nat_le}
use Rattle.std.specs.List.{list_all}
use Rattle.code.specs.Meaning.{CodeMeaning, within}
use Rattle.refusal.specs.declared.Refusal.{Refusal}
use Rattle.refusal.specs.declared.Refusal.TheVariants.{WrongCode, ContentsIncomplete, ProgramNameMalformed, ProgramSplit, TextsMisfit, ForeignByte}
use Rattle.image.specs.Tests.{first_is, among}
use Rattle.image.specs.Layout.{Entry, proper_bytes}
use Rattle.image.specs.Contents.{entries, program_of, text_sizes, lines}

-- a question: if it says no, that is the refusal; else the next ones are put
abbrev pub ask : Bool → Refusal → Option Refusal → Option Refusal
ask yes_it_is refusal next = cond yes_it_is next (Some refusal)

-- is the program name 1 to 20 bytes long, and filled with zeros?
abbrev pub well_named : Entry → Bool
well_named e = within 1 20 e.program_length && list_all (λ b. b == 0) (drop e.program_length e.program_field)

-- does the name come next, or come no more?
abbrev pub goes_on : List ℕ → List (List ℕ) → Bool
goes_on n ns = first_is n ns || not (among n ns)

-- does each name come next, or come no more?
abbrev pub adjacent : List (List ℕ) → Bool
adjacent [] = true
adjacent (n ∷ ns) = goes_on n ns && adjacent ns

-- the questions to the contents and the texts after them
abbrev pub contents_refusal : CodeMeaning → List Entry → List ℕ → Option Refusal
contents_refusal code es texts =
    ask (list_all well_named es) ProgramNameMalformed
    (ask (adjacent (map program_of es)) ProgramSplit
    (ask (text_sizes es == length texts) TextsMisfit
    (ask (list_all (proper_bytes code) (lines es texts)) ForeignByte None)))

-- is the count of strings at most 128, and is there an entry for each?
abbrev pub complete : ℕ → List ℕ → Bool
complete count rest = nat_le count 128 && nat_le (25 * count) (length rest)

-- the refusal of an image; None where it is granted
abbrev pub image_refusal : CodeMeaning → List ℕ → Option Refusal
image_refusal code [] = Some WrongCode
image_refusal code (number ∷ []) = Some WrongCode
image_refusal code (number ∷ count ∷ rest) =
    ask (number == code.number) WrongCode
    (ask (complete count rest) ContentsIncomplete
    (contents_refusal code (entries count (take (25 * count) rest)) (drop (25 * count) rest)))
