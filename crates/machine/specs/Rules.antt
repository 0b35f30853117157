-- The rules of the scan as a relation: each rule by itself, with what it takes from the front of the right text. Assumes
-- nothing.
use Rattle.std.specs.Prelude.{◌≡◌, ℕ, suc, ◌+◌, true, false, [], ◌∷◌, ◌++◌, length, take, drop, Some, None, ◌≢◌}
use Rattle.code.specs.Meaning.{CodeLaws}
use Rattle.machine.specs.declared.roll.Begins.{Begins}
use Rattle.machine.specs.declared.roll.Begins.TheVariants.{ActiveCall, PassiveCall, Parameter}
use Rattle.machine.specs.Texts.{Text, Code, not_empty}
use Rattle.machine.specs.Faults.{roll?, unmatched}
use Rattle.machine.specs.Chain.{Run, give, fault, ask}
use Rattle.machine.specs.World.{World}
use Rattle.machine.specs.Scan.{State, inside, match_of, make_call, step}

-- the state with other texts
abbrev pub with_texts : State → Text → Text → State
with_texts s l r = record { left = l; right = r; roll = s.roll; world = s.world }

-- an entry of the roll is made behind the left text, and the right text is r then
abbrev pub opened : State → Begins → Text → Run World State
opened s b r =
    ask roll? (length s.roll + 1) s.world
    (give (record { left = s.left; right = r; roll = s.roll ++ record { begins = b; at = length s.left } ∷ []; world = s.world }))

-- no rule but the last fits the front of the right text
pub record PlainFront (code : Code) (s : State) (b : ℕ) (r : Text) : Type 0 where
  pub no_line : b ≡ code.end_of_line → ⊥
  pub no_escape : b ≡ code.named 64 → ⊥
  pub no_bracket : b ≡ code.named 60 → ⊥
  pub no_active : (t : Text) → b ∷ r ≢ code.named 35 ∷ code.named 60 ∷ t
  pub no_passive : (t : Text) → b ∷ r ≢ code.named 35 ∷ code.named 35 ∷ code.named 60 ∷ t
  pub no_separator : inside s ≡ true → b ≢ code.named 59
  pub no_close : inside s ≡ true → b ≢ code.named 62

-- x is how the state s goes on by a rule
pub data GoesOn (code : Code) (s : State) (x : Run World State) : Type 0 where
  -- 1. an end of line is dropped
  drops_line : (r : Text) → s.right ≡ code.end_of_line ∷ r → x ≡ give (with_texts s s.left r) → GoesOn code s x
  -- 2. `@` is dropped, and the byte after it, if any, moves left
  escapes : (r : Text) → s.right ≡ code.named 64 ∷ r → x ≡ give (with_texts s (s.left ++ take 1 r) (drop 1 r)) → GoesOn code s x
  -- 3. `##<` opens a passive call, and `#<` an active one
  opens_passive : (r : Text) → s.right ≡ code.named 35 ∷ code.named 35 ∷ code.named 60 ∷ r → x ≡ opened s PassiveCall r → GoesOn code s x
  opens_active : (r : Text) → s.right ≡ code.named 35 ∷ code.named 60 ∷ r → x ≡ opened s ActiveCall r → GoesOn code s x
  -- 4. `<` is dropped with its match, and all between moves left; without a match it is a fault
  unbrackets : (r : Text) (k : ℕ) → s.right ≡ code.named 60 ∷ r → match_of code false 0 r ≡ Some k →
      x ≡ give (with_texts s (s.left ++ take k r) (drop (suc k) r)) → GoesOn code s x
  finds_no_match : (r : Text) → s.right ≡ code.named 60 ∷ r → match_of code false 0 r ≡ None → x ≡ fault unmatched s.world → GoesOn code s x
  -- 5. `;` inside a call begins a parameter
  separates : (r : Text) → inside s ≡ true → s.right ≡ code.named 59 ∷ r → x ≡ opened s Parameter r → GoesOn code s x
  -- 6. `>` inside a call makes the innermost call
  calls : (r : Text) → inside s ≡ true → s.right ≡ code.named 62 ∷ r → x ≡ make_call code (with_texts s s.left r) → GoesOn code s x
  -- 7. any other byte moves left
  passes : (b : ℕ) (r : Text) → s.right ≡ b ∷ r → PlainFront code s b r → x ≡ give (with_texts s (s.left ++ b ∷ []) r) → GoesOn code s x

-- A step goes by a rule, and no rule goes on in any other way: in a code that keeps the laws one rule at most fits.
pub record ByTheRules (code : Code) (s : State) : Type 0 where
  pub by_a_rule : GoesOn code s (step code s)
  pub by_no_other : (x : Run World State) → GoesOn code s x → x ≡ step code s

abbrev pub EveryStepGoesByOneRule : Type 0
EveryStepGoesByOneRule = (code : Code) → CodeLaws code → (s : State) → not_empty s.right ≡ true → ByTheRules code s
