-- Laws of the definitions: what they are for. Assumes nothing.
use Rattle.std.specs.Prelude.{◌≡◌, ℕ, suc, ◌%◌, ◌^◌, ◌<◌, ◌≤◌, Bool, true, false, cond, not, ◌&&◌, List, [], ◌∷◌, ◌++◌, length, take, drop, ℤ, pos, ◌+ℤ◌, ◌*ℤ◌, ◌≤ℤ◌, Some, None, Option, ◌==◌, ◌≢◌, int_div, int_rem, unsigned_abs}
use Rattle.std.specs.Option.{option_or}
use Rattle.std.specs.Str.{bytes_eq}
use Rattle.code.specs.Meaning.{CodeLaws, marked}
use Rattle.library.specs.Keeping.{store_refusal, delete_refusal, with_program, without_program}
use Rattle.library.specs.Meaning.{Library, Program, NamedString}
use Rattle.refusal.specs.declared.Refusal.{Refusal}
use Rattle.machine.specs.declared.amounts.Amounts.{Amounts}
use Rattle.machine.specs.declared.amounts.Limits.{Limits}
use Rattle.machine.specs.declared.built_in.BuiltIn.{BuiltIn}
use Rattle.machine.specs.Texts.{Text, Code}
use Rattle.machine.specs.Faults.{Fault, refusal_of}
use Rattle.machine.specs.Chain.{Tally, gave, walk}
use Rattle.machine.specs.Dictionary.{Dictionary, Row, Meaning, built_in, string, Str, new_string, in_rows, look_up, define, change, erase}
use Rattle.machine.specs.World.{World, with_library, Outcome, faults, changing, defining, p1, p2}
use Rattle.machine.specs.Strings.{segmented, copy_function}
use Rattle.machine.specs.Arithmetic.{fifteen_digits}
use Rattle.machine.specs.Libraries.{fetching, put_in_library, take_from_library}
use Rattle.machine.specs.Scan.{match_of}
use Rattle.machine.specs.Functions.{filled}
use Rattle.machine.specs.Calls.{expand, Areas, Memory, replying, no_finding, turned_away, done}
use Rattle.std.specs.List.{list_all}

-- PLAIN TEXT

-- a character that begins no call, bracket or escape
abbrev pub plain : Code → ℕ → Bool
plain code b = code.character b && not (b == code.named 35) && not (b == code.named 60) && not (b == code.named 64)

-- so many bytes in the scan, so many steps
abbrev pub scanned : ℕ → Amounts
scanned n = record { names = 0; roll = 0; store = 0; scan = n; print = 0; steps = n }

-- The text of plain characters is itself, and each is a step.
abbrev pub PlainTextIsItself : Type 0
PlainTextIsItself =
    (code : Code) → CodeLaws code → (p : Limits) (m : Memory) (a : ℕ) (source : Text) (areas : Areas) →
    list_all (plain code) source ≡ true → length source ≤ p.scan → length source ≤ a → turned_away p (expand a source areas) ≡ None →
    (done code p m (expand a source areas)).after.replied ≡ replying 0 source [] (scanned (length source)) no_finding

-- BRACKETS

-- a text whose brackets match
pub data Balanced (code : Code) : Text → Type 0 where
  no_text : Balanced code []
  -- a byte that is none of `<`, `>` and `@`
  one_byte : (b : ℕ) → (b ≢ code.named 60) → (b ≢ code.named 62) → (b ≢ code.named 64) → Balanced code (b ∷ [])
  -- `@` with the byte behind it
  escaped : (b : ℕ) → Balanced code (code.named 64 ∷ b ∷ [])
  bracketed : {t : Text} → Balanced code t → Balanced code (code.named 60 ∷ t ++ code.named 62 ∷ [])
  in_a_row : {t u : Text} → Balanced code t → Balanced code u → Balanced code (t ++ u)

-- `>` stands at place k of t, and the brackets before it match
pub record ClosedAt (code : Code) (t : Text) (k : ℕ) : Type 0 where
  pub balanced : Balanced code (take k t)
  pub closes : drop k t ≡ code.named 62 ∷ drop (suc k) t

-- The match of `<` is the `>` behind a text whose brackets match, and there is no other such `>`.
abbrev pub BracketsMatchInBalance : Type 0
BracketsMatchInBalance =
    (code : Code) → CodeLaws code → (t : Text) (k : ℕ) →
    (match_of code false 0 t ≡ Some k → ClosedAt code t k) × (ClosedAt code t k → match_of code false 0 t ≡ Some k)

-- ARITHMETIC

-- x is y times q, and r is left: less than y in size, and with the sign of x
pub record Division (x y q r : ℤ) : Type 0 where
  pub whole : x ≡ (y *ℤ q) +ℤ r
  pub less : unsigned_abs r < unsigned_abs y
  pub not_below : pos 0 ≤ℤ x → pos 0 ≤ℤ r
  pub not_above : x ≤ℤ pos 0 → r ≤ℤ pos 0

-- DV and DVR give the quotient and the remainder of the integers.
abbrev pub DivisionAgreesWithTheIntegers : Type 0
DivisionAgreesWithTheIntegers = (x y : ℤ) → 0 < unsigned_abs y → Division x y (int_div x y) (int_rem x y)

-- AD and SU drop multiples of 10^15 from the true sum or difference z, whose sign and last 15 digits stay.
pub record LastDigits (z : ℤ) : Type 0 where
  pub dropped : ℤ
  pub divided : Division z (pos (10 ^ 15)) dropped (fifteen_digits z)
  pub digits : unsigned_abs (fifteen_digits z) ≡ unsigned_abs z % 10 ^ 15
  -- a result of at most 15 digits is the true one
  pub exact : unsigned_abs z < 10 ^ 15 → fifteen_digits z ≡ z

abbrev pub SumsAgreeWithTheIntegers : Type 0
SumsAgreeWithTheIntegers = (z : ℤ) → LastDigits z

-- SEGMENTS

abbrev pub unmarked : Code → Text → Bool
unmarked code t = list_all (λ b. not (marked code b)) t

-- A new string is segmented on p. Its value with p as the parameter is the string as it was defined.
abbrev pub ParametersGoBackWhereTheyStood : Type 0
ParametersGoBackWhereTheyStood =
    (code : Code) → CodeLaws code → (n t p created : Text) → unmarked code t ≡ true →
    filled code (p ∷ []) created (segmented code (n ∷ p ∷ []) (new_string t)).marked_text ≡ t

-- THE DICTIONARY

-- DS, CF: a name means what it was defined as, and every other name what it meant
abbrev pub ADefinedNameIsLookedUp : Type 0
ADefinedNameIsLookedUp = (code : Code) (d : Dictionary) (n : Text) (m : Meaning) → look_up code (define code n m d) n ≡ Some m

-- CF asks whether a dictionary fits in which the name p1 means m
pub record Copied (code : Code) (ps : List Text) (w : World) (m : Meaning) : Type 0 where
  pub after : Dictionary
  pub defines : copy_function code ps w ≡ defining after w
  pub means : look_up code after (p1 ps) ≡ Some m

-- the copy of a string is what selection has left of it, and that of a built-in the built-in
abbrev pub ACopyOfAStringIsItsRest : Type 0
ACopyOfAStringIsItsRest =
    (code : Code) (ps : List Text) (w : World) (s : Str) → look_up code w.dictionary (p2 ps) ≡ Some (string s) →
    Copied code ps w (string (new_string (drop s.pointer s.body)))

abbrev pub ACopyOfABuiltInIsThatBuiltIn : Type 0
ACopyOfABuiltInIsThatBuiltIn =
    (code : Code) (ps : List Text) (w : World) (f : BuiltIn) → look_up code w.dictionary (p2 ps) ≡ Some (built_in f) →
    Copied code ps w (built_in f)

abbrev pub OtherNamesStayWhenOneIsDefined : Type 0
OtherNamesStayWhenOneIsDefined =
    (code : Code) (d : Dictionary) (n other : Text) (m : Meaning) → (other ≢ n) → look_up code (define code n m d) other ≡ look_up code d other

-- no two rows have one name
abbrev pub Distinct : List Row → Type 0
Distinct [] = Unit {0}
Distinct (r ∷ rs) = (in_rows r.name rs ≡ None) × Distinct rs

abbrev pub DefiningKeepsNamesDistinct : Type 0
DefiningKeepsNamesDistinct = (code : Code) (d : Dictionary) (n : Text) (m : Meaning) → Distinct d.rows → Distinct (define code n m d).rows

abbrev pub ChangingKeepsNamesDistinct : Type 0
ChangingKeepsNamesDistinct = (d : Dictionary) (n : Text) (s : Str) → Distinct d.rows → Distinct (change n s d).rows

abbrev pub ErasingKeepsNamesDistinct : Type 0
ErasingKeepsNamesDistinct = (code : Code) (d : Dictionary) (n : Text) → Distinct d.rows → Distinct (erase code n d).rows

-- ES: an erased name means nothing, and every other name what it meant
abbrev pub AnErasedNameIsGone : Type 0
AnErasedNameIsGone = (code : Code) (d : Dictionary) (n : Text) → Distinct d.rows → look_up code (erase code n d) n ≡ None

abbrev pub OtherNamesStayWhenOneIsErased : Type 0
OtherNamesStayWhenOneIsErased =
    (code : Code) (d : Dictionary) (n other : Text) → (other ≢ n) → look_up code (erase code n d) other ≡ look_up code d other

-- COPY and retrieval: a name means the last string of that name that was fetched, and every other name what it meant
abbrev pub last_fetched : Text → List NamedString → Option Meaning
last_fetched n [] = None
last_fetched n (s ∷ ss) = option_or (last_fetched n ss) (cond (bytes_eq s.name n) (Some (string (new_string s.body))) None)

abbrev pub FetchedStringsAreLookedUp : Type 0
FetchedStringsAreLookedUp =
    (code : Code) (b : Amounts) (t u : Tally) (ss : List NamedString) (w v : World) → walk b t (fetching code ss w) ≡ gave v u →
    (n : Text) → look_up code v.dictionary n ≡ option_or (last_fetched n ss) (look_up code w.dictionary n)

-- THE LIBRARY

-- a call that a library answers: refused by that refusal, and nothing changes; or what it leaves
abbrev pub AsTheLibrary : Option Refusal → World → Library → Outcome → Type 0
AsTheLibrary (Some r) w l o = (f : Fault) × (refusal_of f ≡ r) × (o ≡ faults f w)
AsTheLibrary None w l o = o ≡ changing [] (with_library l w)

-- STORE and DELETE put the questions of the library, in its order, and leave what it leaves.
abbrev pub StoredAsTheLibraryDoes : Type 0
StoredAsTheLibraryDoes =
    (p : Program) (w : World) → AsTheLibrary (store_refusal w.library p) w (with_program w.library p) (put_in_library p w)

abbrev pub DeletedAsTheLibraryDoes : Type 0
DeletedAsTheLibraryDoes =
    (n : Text) (w : World) → AsTheLibrary (delete_refusal w.library n) w (without_program w.library n) (take_from_library n w)
