-- What a plan stands for in a dictionary that lies in a store, and a library.
use Rattle.std.specs.Prelude.{◌≡◌, ℕ, List, Result, MatchResult}
use Rattle.library.specs.Meaning.{Library}
use Rattle.refusal.specs.declared.Refusal.{Refusal}
use Rattle.machine.specs.Texts.{Text, Code}
use Rattle.machine.specs.Faults.{Fault, refusal_of}
use Rattle.machine.specs.World.{World, Outcome, faults}
use Rattle.dictionary.specs.declared.dictionary.Dictionary.{Dictionary}
use Rattle.dictionary.specs.Meant.{dictionary_in}
use Rattle.delivery.specs.Deliveries.{StandsIn}
use Rattle.plan.specs.declared.plan.Plan.{Plan}
use Rattle.plan.specs.Effects.{May}
use Rattle.plan.specs.Plans.{outcome_of}

module _ (code : Code) (ps : List Text) (d : Dictionary) (store : List ℕ) (l : Library) where
  -- the world has them
  pub record Has (w : World) : Type 0 where
    pub dictionary : w.dictionary ≡ dictionary_in d store
    pub library : w.library ≡ l

  -- the plan can be carried out, and is what the machine's function comes to
  pub record PlannedIn (function : World → Outcome) (p : Plan) : Type 0 where
    pub stands : StandsIn d p.value
    pub may : May code ps d store l p.effect
    pub comes : (w : World) → Has w → function w ≡ outcome_of code ps store l p w

  -- the machine's function comes to a fault of this refusal
  pub record RefusedIn (function : World → Outcome) (refusal : Refusal) : Type 0 where
    pub why : Fault
    pub says : refusal_of why ≡ refusal
    pub comes : (w : World) → Has w → function w ≡ faults why w

  abbrev pub PlansIn : (World → Outcome) → Result Plan Refusal → Type 0
  PlansIn function r = MatchResult r (PlannedIn function) (RefusedIn function)
