-- What is known of calls that were let in. Assumes nothing.
use Rattle.std.specs.Prelude.{◌≡◌, ◌≤◌, ℕ, None}
use Rattle.machine.specs.Texts.{Text, Code}
use Rattle.machine.specs.declared.amounts.Limits.{Limits}
use Rattle.refusal.specs.declared.Refusal.{Refusal}
use Rattle.refusal.specs.Numbers.{number_of}
use Rattle.machine.specs.Chain.{bounds, walk}
use Rattle.machine.specs.Scan.{expansion}
use Rattle.machine.specs.Calls.{Areas, turned_away, expand, Memory, done, unchanged, turned_down, came_to, from_zero, world_of}

-- an expansion was let in: its areas are long enough, and its allowance is in range
pub record Admitted (l : Limits) (allowance : ℕ) (source : Text) (areas : Areas) : Type 0 where
  pub granted : turned_away l (expand allowance source areas) ≡ None
  pub store : l.store ≤ areas.store_area
  pub scan : l.scan ≤ areas.scan_area
  pub print : l.print ≤ areas.print_area
  pub allowed : allowance ≤ 1000000

abbrev pub areas_of : ℕ → ℕ → ℕ → Areas
areas_of store scan print = record { store_area = store; scan_area = scan; print_area = print }

-- the answer of an expansion that is refused at its entry, whatever lasts; it is one of the first twelve refusals
pub record TurnedAway (code : Code) (l : Limits) (allowance : ℕ) (source : Text) (areas : Areas) (r : Refusal) : Type 0 where
  pub answers : (m : Memory) → done code l m (expand allowance source areas) ≡ unchanged (turned_down r) m
  pub early : number_of r ≤ 12

-- all questions at the entry were passed
pub record LetIn (code : Code) (l : Limits) (allowance : ℕ) (source : Text) (areas : Areas) : Type 0 where
  pub answers : (m : Memory) → done code l m (expand allowance source areas) ≡ came_to (walk (bounds l allowance) (from_zero m.created) (expansion code source (world_of m)))
  pub store : l.store ≤ areas.store_area
  pub scan : l.scan ≤ areas.scan_area
  pub print : l.print ≤ areas.print_area
  pub allowed : allowance ≤ 1000000
