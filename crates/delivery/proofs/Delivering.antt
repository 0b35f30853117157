-- The last question of a call, with what follows it, and what its value leans on. Assumes nothing.
use Rattle.std.proofs.Common.{◌≡◌, Bool, true, false, [], length, Ok, Err, refl, ap, ap₂}
use Rattle.code.specs.declared.Code.{Ghosts as OfCode}
use Rattle.library.specs.declared.reader.Reader.{Ghosts as OfReader}
use Rattle.refusal.specs.declared.Refusal.{Refusal}
use Rattle.machine.specs.Texts.{Text}
use Rattle.machine.specs.Chain.{gave, taken}
use Rattle.machine.specs.World.{World, Ready, calling}
use Rattle.machine.specs.Scan.{State, placing, value_length, deliver}
use Rattle.meter.specs.declared.meter.Meter.{Meter}
use Rattle.meter.specs.declared.question.Question.TheVariants as question
use Rattle.meter.specs.Metered.{tally, Passed, Short}
use Rattle.scan.specs.Meeting.{Meets}
use Rattle.scan.proofs.Meetings.{on_passed, on_short}
use Rattle.value.specs.declared.sources.Sources.{Sources}
use Rattle.value.specs.declared.value.Value.{Value}
use Rattle.value.specs.declared.value.Value.TheVariants.{Nothing, Parameter, Front, Behind, Reversed, Lowered, Number, Length, Passed as PassedBytes, Filled, Names}
use Rattle.value.specs.Taking.{Stands}
use Rattle.delivery.specs.Deliveries.{StandsIn, value_of, need_of}

-- what stands in sources stands in their dictionary
pub stands_there : {C R : Type 0} {code : OfCode C} {reader : OfReader R} (s : Sources C R code reader) (v : Value) → Stands s v → StandsIn s.dictionary.now v
stands_there s Nothing h = h
stands_there s (Parameter n) h = h
stands_there s (Front n len) h = h
stands_there s (Behind n len) h = h
stands_there s (Reversed n) h = h
stands_there s (Lowered n) h = h
stands_there s (Number z) h = h
stands_there s (Length n) h = h
stands_there s (PassedBytes p len) h = h
stands_there s (Filled p created) h = h
stands_there s (Names p) h = h

value_is_long : (breaks : Bool) (value : Text) → value_length (value_of breaks value) ≡ length value
value_is_long true value = refl
value_is_long false value = refl

module _ (s : State) (f : Ready) (breaks : Bool) (value : Text) (is : f.result ≡ value_of breaks value) (m m' : Meter) where
  -- no: nothing is delivered
  pub not_delivered : (e : Refusal) (after : State) → Short question.Value (need_of value s) m m' e → Meets m m' (Err e) after f.kept (deliver s f)
  not_delivered e after h = rw (is, value_is_long breaks value) (on_short question.Value _ m m' m' (Err e) after f.kept f.kept _ e h)

  module _ (passed : Passed question.Value (need_of value s) m m') (after : State) (left : World) (placed : after ≡ placing (value_of breaks value) (calling [] f.after) s) where
    -- yes: the value is placed
    pub delivered : (u : Unit {0}) → f.numbered ≡ false → Meets m m' (Ok u) after left (deliver s f)
    delivered u plain =
        rw (is, value_is_long breaks value, plain)
        (on_passed question.Value _ m m' m' (Ok u) after left f.kept _ passed (record { bounds_stay = refl; as_defined = ap (λ a. gave a (tally m')) placed }))

    -- and its created number is taken
    pub delivered_with_number : (u : Unit {0}) (m'' : Meter) → f.numbered ≡ true → m''.bounds ≡ m'.bounds → tally m'' ≡ taken (tally m') → Meets m m'' (Ok u) after left (deliver s f)
    delivered_with_number u m'' numbered same took =
        rw (is, value_is_long breaks value, numbered)
        (on_passed question.Value _ m m' m'' (Ok u) after left f.kept _ passed (record { bounds_stay = same; as_defined = ap₂ gave placed took }))
