-- What a plan stands for, in the worlds that its sources show.
use Rattle.std.specs.Prelude.{◌≡◌, ℕ, List, Result, MatchResult}
use Rattle.code.specs.declared.Code.{Ghosts as OfCode}
use Rattle.library.specs.declared.reader.Reader.{Ghosts as OfReader}
use Rattle.library.specs.Meaning.{Library}
use Rattle.refusal.specs.declared.Refusal.{Refusal}
use Rattle.machine.specs.Texts.{Text, Code}
use Rattle.machine.specs.Faults.{Fault, refusal_of, no_mark_number}
use Rattle.machine.specs.World.{World, Outcome, plans, faults, provided}
use Rattle.dictionary.specs.Meant.{dictionary_in}
use Rattle.value.specs.declared.sources.Sources.{Sources}
use Rattle.value.specs.Texts.{value_text}
use Rattle.value.specs.Taking.{Stands}
use Rattle.plan.specs.declared.plan.Plan.{Plan}
use Rattle.plan.specs.Effects.{performed, asks_of, is_numbered, placed_by, May}

-- what the machine's function comes to where this is its plan
abbrev pub outcome_of : Code → List Text → List ℕ → Library → Plan → World → Outcome
outcome_of code ps store library p w =
    let after = performed code ps store p.effect w in
    provided (is_numbered p.effect) no_mark_number after
    (plans (record { value = placed_by p.effect (value_text code ps store library p.value); after = after; asks = asks_of p.effect }))

module _ {C R : Type 0} {code : OfCode C} {reader : OfReader R} (s : Sources C R code reader) where
  -- the world has the dictionary and the library of the sources
  pub record Sees (w : World) : Type 0 where
    pub dictionary : w.dictionary ≡ dictionary_in s.dictionary.now s.store.now
    pub library : w.library ≡ reader.meaning s.library.now

  -- the plan can be carried out, and is what the machine's function comes to
  pub record Planned (function : World → Outcome) (p : Plan) : Type 0 where
    pub stands : Stands s p.value
    pub may : May code.meaning s.parameters.now s.dictionary.now s.store.now (reader.meaning s.library.now) p.effect
    pub comes : (w : World) → Sees w → function w ≡ outcome_of code.meaning s.parameters.now s.store.now (reader.meaning s.library.now) p w

  -- the machine's function comes to a fault of this refusal
  pub record Refused (function : World → Outcome) (refusal : Refusal) : Type 0 where
    pub why : Fault
    pub says : refusal_of why ≡ refusal
    pub comes : (w : World) → Sees w → function w ≡ faults why w

  -- the result is what the machine's function comes to
  abbrev pub Plans : (World → Outcome) → Result Plan Refusal → Type 0
  Plans function r = MatchResult r (Planned function) (Refused function)

  -- Of an attempt at a value, as that of a name at a string: what is to be done with the value is not known yet.

  pub record GoesOn {V : Type 0} (attempt : World → (V → Outcome) → Outcome) (value : V) : Type 0 where
    pub on : (w : World) → Sees w → (go : V → Outcome) → attempt w go ≡ go value

  pub record Stops {V : Type 0} (attempt : World → (V → Outcome) → Outcome) (refusal : Refusal) : Type 0 where
    pub why : Fault
    pub says : refusal_of why ≡ refusal
    pub stops : (w : World) → Sees w → (go : V → Outcome) → attempt w go ≡ faults why w

  -- the result shows the value
  abbrev pub ComesTo : {V U : Type 0} → (World → (V → Outcome) → Outcome) → (U → V) → Result U Refusal → Type 0
  ComesTo attempt shows r = MatchResult r (λ u. GoesOn attempt (shows u)) (Stops attempt)
