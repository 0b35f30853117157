-- What questions about a world that is to be come to.
use Rattle.std.specs.Prelude.{◌≡◌, ◌≤◌, length, ⊤, Result, IfOk}
use Rattle.refusal.specs.declared.Refusal.{Refusal}
use Rattle.machine.specs.declared.amounts.Amounts.{Amounts}
use Rattle.machine.specs.Dictionary.{names_in, bytes_in}
use Rattle.machine.specs.World.{World, Plan, Asks, nothing_more, names_and_store, store_only, print_only, ready, asking}
use Rattle.meter.specs.declared.meter.Meter.{Meter}
use Rattle.scan.specs.Meeting.{Meets}

-- what was asked of the world is within the bounds
abbrev pub Within : Amounts → Asks → World → Type 0
Within b nothing_more v = ⊤
Within b names_and_store v = (names_in v.dictionary ≤ b.names) × (bytes_in v.dictionary ≤ b.store)
Within b store_only v = bytes_in v.dictionary ≤ b.store
Within b print_only v = length v.printed ≤ b.print

-- worlds of which all needs are the same
pub record Alike (v w : World) : Type 0 where
  pub dictionary : w.dictionary ≡ v.dictionary
  pub printed : w.printed ≡ v.printed

-- the answer is that of the machine, in each world and for each plan that leaves such a world; and Ok is within the bounds
pub record Answers (m m' : Meter) (r : Result (Unit {0}) Refusal) (asks : Asks) (v : World) : Type 0 where
  pub meets : (w : World) (p : Plan) → Alike v p.after → Meets m m' r (ready w p) w (asking w p asks)
  pub within : IfOk r (λ _. Within m.bounds asks v)
