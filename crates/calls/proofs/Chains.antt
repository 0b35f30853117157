-- How parts of a chain that are met make up the whole, where the first answers a value. Assumes nothing.
use Rattle.std.proofs.Common.{Ok, Err, Result, sym, ap, ◌∙◌}
use Rattle.refusal.specs.declared.Refusal.{Refusal}
use Rattle.machine.specs.Chain.{Run, ◌>>=◌, walk}
use Rattle.machine.specs.ChainLaws.{and_then}
use Rattle.machine.specs.World.{World}
use Rattle.machine.proofs.Walking.{walk_of_bind}
use Rattle.meter.specs.declared.meter.Meter.{Meter}
use Rattle.meter.specs.Metered.{tally}
use Rattle.scan.specs.Meeting.{Meets}
use Rattle.calls.specs.Meeting.{MeetsWith}

-- what is met without a value, and with one

module _ {V A : Type 0} (m m' : Meter) (shows : V → A) (left : World) (run : Run World A) where
  pub with_value : (u : Unit {0}) (v : V) → Meets m m' (Ok u) (shows v) left run → MeetsWith m m' (Ok v) shows left run
  with_value u v h = record { bounds_stay = h.bounds_stay; as_defined = h.as_defined }

  pub without_value : (u : Unit {0}) (v : V) → MeetsWith m m' (Ok v) shows left run → Meets m m' (Ok u) (shows v) left run
  without_value u v h = record { bounds_stay = h.bounds_stay; as_defined = h.as_defined }

  pub err_with : (e : Refusal) (a : A) → Meets m m' (Err e) a left run → MeetsWith m m' (Err e) shows left run
  err_with e a h = record { bounds_stay = h.bounds_stay; as_defined = h.as_defined }

  pub err_without : (e : Refusal) (a : A) → MeetsWith m m' (Err e) shows left run → Meets m m' (Err e) a left run
  err_without e a h = record { bounds_stay = h.bounds_stay; as_defined = h.as_defined }

-- one chain and then another

module _ {U V A B : Type 0} (m m' m'' : Meter) (r : Result V Refusal) (shows : U → A) (shows' : V → B) (left left' : World) (run : Run World A) (f : A → Run World B) where
  pub then_met : (u : U) → MeetsWith m m' (Ok u) shows left run → MeetsWith m' m'' r shows' left' (f (shows u)) → MeetsWith m m'' r shows' left' (run >>= f)
  then_met u h k = record {
    bounds_stay = k.bounds_stay ∙ h.bounds_stay;
    as_defined =
        k.as_defined ∙ ap (λ x. walk x (tally m') (f (shows u))) h.bounds_stay
        ∙ ap (λ x. and_then x (λ c t. walk m.bounds t (f c))) h.as_defined ∙ sym (walk_of_bind m.bounds f (tally m) run);
  }

  pub then_stopped : (e : Refusal) → MeetsWith m m' (Err e) shows left run → MeetsWith m m' (Err e) shows' left (run >>= f)
  then_stopped e h = record {
    bounds_stay = h.bounds_stay;
    as_defined = ap (λ x. and_then x (λ c t. walk m.bounds t (f c))) h.as_defined ∙ sym (walk_of_bind m.bounds f (tally m) run);
  }
