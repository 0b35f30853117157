-- The scan: the left text, the right text and the roll; one rule is one step. Assumes nothing.
use Rattle.std.specs.Prelude.{ℕ, zero, suc, ◌+◌, ◌-◌, Bool, true, false, cond, ◌&&◌, List, [], ◌∷◌, ◌++◌, map, length, take, drop, Some, None, codes, Option, ◌==◌, nat_lt, slice_index_or}
use Rattle.std.specs.List.{range_with_len}
use Rattle.std.specs.Option.{option_map}
use Rattle.machine.specs.declared.roll.Begins.{Begins}
use Rattle.machine.specs.declared.roll.Begins.TheVariants.{ActiveCall, PassiveCall, Parameter}
use Rattle.machine.specs.declared.roll.RollEntry.{RollEntry}
use Rattle.machine.specs.declared.rule.Rule.{Rule}
use Rattle.machine.specs.declared.rule.Rule.TheVariants.{EndOfLine, Escape, OpenPassive, OpenActive, Bracket, Separator, Close, Other}
use Rattle.machine.specs.Texts.{Text, Code, spelled, begins, not_empty}
use Rattle.machine.specs.Faults.{source?, step?, roll?, value?, unmatched, call_open}
use Rattle.machine.specs.Chain.{Run, give, fault, ask, take_number, ◌>>=◌}
use Rattle.machine.specs.World.{World, calling, Value, text, break, Ready}
use Rattle.machine.specs.Functions.{function}

pub record State : Type 0 where
  -- what the scan has passed
  pub left : Text
  -- what it has yet to come to
  pub right : Text
  -- the calls that are open, and their parameters: where each begins in the left text
  pub roll : List RollEntry
  pub world : World

abbrev pub inside : State → Bool
inside s = not_empty s.roll

-- The innermost call: its name and its parameters stand in the left text, from entry j of the roll on.

abbrev pub entry_at : List RollEntry → ℕ → RollEntry
entry_at roll k = slice_index_or roll k (record { begins = Parameter; at = 0 })

abbrev pub opens : Begins → Bool
opens ActiveCall = true
opens PassiveCall = true
opens Parameter = false

abbrev pub is_active : Begins → Bool
is_active ActiveCall = true
is_active PassiveCall = false
is_active Parameter = false

-- the last entry up to k that opens a call; the first entry opens one
abbrev pub opening : List RollEntry → ℕ → ℕ
opening roll zero = 0
opening roll (suc k) = cond (opens (entry_at roll (suc k)).begins) (suc k) (opening roll k)

abbrev pub innermost : List RollEntry → ℕ
innermost roll = opening roll (length roll - 1)

-- the left text from entry k to the next one, or to the end
abbrev pub field_end : List RollEntry → Text → ℕ → ℕ
field_end roll left k = cond (nat_lt (k + 1) (length roll)) (entry_at roll (k + 1)).at (length left)

abbrev pub field : List RollEntry → Text → ℕ → Text
field roll left k = take (field_end roll left k - (entry_at roll k).at) (drop (entry_at roll k).at left)

abbrev pub called_name : State → Text
called_name s = field s.roll s.left (innermost s.roll)

abbrev pub parameters : State → List Text
parameters s =
    let j = innermost s.roll in
    map (field s.roll s.left) (range_with_len (j + 1) (length s.roll - (j + 1)))

-- The rules.

-- the first that fits the front of the right text
abbrev pub rule : Code → Bool → Text → Rule
rule code within_call r =
    let front = λ (chars : List ℕ). begins (spelled code chars) r in
    cond (begins (code.end_of_line ∷ []) r) EndOfLine
    (cond (front (codes "@")) Escape
    (cond (front (codes "##<")) OpenPassive
    (cond (front (codes "#<")) OpenActive
    (cond (front (codes "<")) Bracket
    (cond (within_call && front (codes ";")) Separator
    (cond (within_call && front (codes ">")) Close
    Other))))))

-- n bytes of the right text are dropped, or move left
abbrev pub dropping : ℕ → State → State
dropping n s = record { left = s.left; right = drop n s.right; roll = s.roll; world = s.world }

abbrev pub moving : ℕ → State → State
moving n s = record { left = s.left ++ take n s.right; right = drop n s.right; roll = s.roll; world = s.world }

-- n bytes are dropped, and the roll gains an entry
abbrev pub entering : Begins → ℕ → State → Run World State
entering b n s =
    ask roll? (length s.roll + 1) s.world
    (give (record {
      left = s.left;
      right = drop n s.right;
      roll = s.roll ++ record { begins = b; at = length s.left } ∷ [];
      world = s.world;
    }))

-- how many bytes stand before the `>` that matches; `depth` counts the `<` between, and `@` protects the byte after it
abbrev pub match_of : Code → Bool → ℕ → Text → Option ℕ
match_of code protected depth [] = None
match_of code true depth (b ∷ bs) = option_map suc (match_of code false depth bs)
match_of code false depth (b ∷ bs) =
    cond (b == code.named 64) (option_map suc (match_of code true depth bs))
    (cond (b == code.named 60) (option_map suc (match_of code false (suc depth) bs))
    (cond (b == code.named 62) (closing depth (match_of code false (depth - 1) bs))
    (option_map suc (match_of code false depth bs))))
  where
    closing : ℕ → Option ℕ → Option ℕ
    closing zero further = Some 0
    closing (suc d) further = option_map suc further

-- `<` goes with its match, and all between moves left
abbrev pub unbracketing : State → Option ℕ → Run World State
unbracketing s None = fault unmatched s.world
unbracketing s (Some k) = give (dropping 1 (moving k (dropping 1 s)))

-- The call. Its own text and entries go; an active value goes before the right text, a passive one behind the left.

abbrev pub value_length : Value → ℕ
value_length (text v) = length v
value_length (break v) = length v

-- the left text before entry j
abbrev pub left_before : ℕ → State → Text
left_before j s = take (entry_at s.roll j).at s.left

abbrev pub placing : Value → World → State → State
placing (text v) w s =
    let j = innermost s.roll in
    let active = is_active (entry_at s.roll j).begins in
    record { left = left_before j s ++ cond active [] v; right = cond active (v ++ s.right) s.right; roll = take j s.roll; world = w }
placing (break v) w s = record { left = left_before 0 s; right = v; roll = []; world = w }

abbrev pub taking : Bool → State → Run World State
taking true s = take_number (give s)
taking false s = give s

-- the scan has to hold the left text with the call in it, the right text and the value
abbrev pub deliver : State → Ready → Run World State
deliver s f =
    ask value? (length s.left + length s.right + value_length f.result) f.kept
    (taking f.numbered (placing f.result (calling [] f.after) s))

-- the `>` is dropped already
abbrev pub make_call : Code → State → Run World State
make_call code s = function code (called_name s) (parameters s) (calling (called_name s) s.world) >>= deliver s

abbrev pub by_rule : Code → Rule → State → Run World State
by_rule code EndOfLine s = give (dropping 1 s)
by_rule code Escape s = give (moving 1 (dropping 1 s))
by_rule code OpenPassive s = entering PassiveCall 3 s
by_rule code OpenActive s = entering ActiveCall 2 s
by_rule code Bracket s = unbracketing s (match_of code false 0 (drop 1 s.right))
by_rule code Separator s = entering Parameter 1 s
by_rule code Close s = make_call code (dropping 1 s)
by_rule code Other s = give (moving 1 s)

unfoldable pub step : Code → State → Run World State
step code s = by_rule code (rule code (inside s) s.right) s

-- the end of the text
abbrev pub ending : State → Run World State
ending s = cond (inside s) (fault call_open s.world) (give s)

-- a step, behind the n that are done
abbrev pub next_step : Code → ℕ → State → Run World State
next_step code n s = ask step? (n + 1) s.world (step code s)

-- The scan behind n steps, of at most `more` others. No allowance goes past 1,000,000, so none goes on there.
unfoldable pub scanning : Code → ℕ → ℕ → State → Run World State
scanning code zero n s = cond (not_empty s.right) (next_step code n s) (ending s)
scanning code (suc more) n s = cond (not_empty s.right) (next_step code n s >>= λ t. scanning code more (n + 1) t) (ending s)

abbrev pub at_start : Text → World → State
at_start source w = record { left = []; right = source; roll = []; world = w }

-- an expansion of a source whose bytes are all right
unfoldable pub expansion : Code → Text → World → Run World State
expansion code source w = ask source? (length source) w (scanning code 1000000 0 (at_start source w))
