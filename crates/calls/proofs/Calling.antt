-- Calls that are made ready from plans. Assumes nothing.
use Rattle.std.proofs.Common.{◌≡◌, true, false, Ok, Err, Result, List, refl, sym, subst, ap, ◌∙◌}
use Rattle.std.proofs.lemmas.Bool.{false≢true}
use Rattle.library.specs.declared.reader.Reader.{Ghosts as OfReader}
use Rattle.refusal.specs.declared.Refusal.{Refusal}
use Rattle.machine.specs.declared.built_in.BuiltIn.{BuiltIn}
use Rattle.machine.specs.declared.built_in.BuiltIn.TheVariants as group
use Rattle.machine.specs.declared.built_in.LibraryFunction.TheVariants.{Store, Delete, Copy, Names, Pdf}
use Rattle.machine.specs.Texts.{Text, Code}
use Rattle.machine.specs.Faults.{no_mark_number}
use Rattle.machine.specs.Chain.{Run}
use Rattle.machine.specs.World.{World, Ready, Outcome, Value, plans, provided, running, ready, asking, calling}
use Rattle.machine.specs.World as machine
use Rattle.machine.specs.Libraries.{fetched}
use Rattle.machine.specs.Functions.{apply}
use Rattle.meter.specs.declared.meter.Meter.{Meter}
use Rattle.scan.specs.Meeting.{Meets}
use Rattle.value.specs.Texts.{value_text}
use Rattle.value.specs.declared.value.Value.TheVariants as value
use Rattle.plan.specs.declared.effect.Effect.TheVariants as effect
use Rattle.plan.specs.declared.plan.Plan.{Plan}
use Rattle.plan.specs.Effects.{performed, asks_of, is_numbered, placed_by}
use Rattle.world.specs.declared.world.World as processor
use Rattle.world.specs.Standing.{world_in, HasRoomFor}
use Rattle.calls.specs.declared.ready_call.ReadyCall.{ReadyCall}
use Rattle.calls.specs.Meeting.{MeetsWith}
use Rattle.calls.specs.Outcomes.{outcome_for}
use Rattle.calls.specs.Planned.{PlannedIn}
use Rattle.calls.specs.ReadyCalls.{ready_of, Readies}
use Rattle.calls.proofs.Chains.{with_value, err_with}

module _ {K : Type 0} (reader : OfReader K) (code : Code) (ps : List Text) (v : processor.World K) where
  -- the machine's plan, in its world w
  abbrev plan_of : Plan → World → machine.Plan
  plan_of p w = record {
    value = placed_by p.effect (value_text code ps v.store.now (reader.meaning v.library.now) p.value);
    after = performed code ps v.store.now p.effect w;
    asks = asks_of p.effect;
  }

  -- the world of the call
  abbrev here : Text → World
  here n = calling n (world_in reader v)

  -- what is planned, and then asked about
  module _ (f : World → Outcome) (p : Plan) (h : PlannedIn code ps v.dictionary.now v.store.now (reader.meaning v.library.now) f p) (numbered : is_numbered p.effect ≡ true) (m m' : Meter) where
    is_asked : (n : Text) → asking (here n) (plan_of p (here n)) (asks_of p.effect) ≡ running (here n) (f (here n))
    is_asked n =
        let w = here n in
        sym (ap (running w) (h.comes w (record { dictionary = refl; library = refl }))
        ∙ ap (λ b. running w (provided b no_mark_number (performed code ps v.store.now p.effect w) (plans (plan_of p w)))) numbered)

    abbrev Asked : Result (Unit {0}) Refusal → Type 0
    Asked r = (n : Text) (x : Value) → let w = here n in let q : machine.Plan = record { value = x; after = performed code ps v.store.now p.effect w; asks = asks_of p.effect } in Meets m m' r (ready w q) w (asking w q (asks_of p.effect))

    module _ (v₀ : processor.World K) (same_world : world_in reader v₀ ≡ world_in reader v) where
      abbrev Comes : Result ReadyCall Refusal → Type 0
      Comes r = Readies reader code ps (λ w. running w (f w)) v₀ v m m' r

      from_asked : (n : Text) (r : Result ReadyCall Refusal) → MeetsWith m m' r (ready_of reader code ps v (here n)) (here n) (asking (here n) (plan_of p (here n)) (asks_of p.effect)) →
          MeetsWith m m' r (ready_of reader code ps v (here n)) (here n) (running (calling n (world_in reader v₀)) (f (calling n (world_in reader v₀))))
      from_asked n r met =
          let P : World → Type 0 = λ w. MeetsWith m m' r (ready_of reader code ps v (here n)) (here n) (running (calling n w) (f (calling n w))) in
          subst P (sym same_world) (subst (MeetsWith m m' r (ready_of reader code ps v (here n)) (here n)) (is_asked n) met)

      pub planned_passes : (u : Unit {0}) → Asked (Ok u) → HasRoomFor v (asks_of p.effect) (performed code ps v.store.now p.effect (world_in reader v)) → Comes (Ok (record { plan = p; numbered = false }))
      planned_passes u met room = record {
        meets = λ n. from_asked n _ (with_value m m' (ready_of reader code ps v (here n)) (here n) _ u (record { plan = p; numbered = false }) (met n _));
        may_end = record { stands = h.stands; may = h.may; room = room; number_left = λ e. absurd (false≢true e) };
      }

      pub planned_short : (e : Refusal) → Asked (Err e) → Comes (Err e)
      planned_short e met = record {
        meets = λ n. from_asked n _ (err_with m m' (ready_of reader code ps v (here n)) (here n) _ e _ (met n _));
        may_end = tt;
      }

module _ {K : Type 0} (reader : OfReader K) (code : Code) (ps : List Text) where
  -- a call of which nothing is left to be done, after a chain that gives a world
  module _ (run : World → Run World Ready) (v v' : processor.World K) (m m' : Meter) where
    abbrev Copied : Result (Unit {0}) Refusal → Type 0
    Copied r = (n : Text) → Meets m m' r (fetched (calling n (world_in reader v'))) (calling n (world_in reader v')) (run (calling n (world_in reader v)))

    pub copied_passes : (u : Unit {0}) → Copied (Ok u) → Readies reader code ps run v v' m m' (Ok (record { plan = record { value = value.Nothing; effect = effect.Nothing }; numbered = false }))
    copied_passes u met = record {
      meets = λ n. with_value m m' (ready_of reader code ps v' (calling n (world_in reader v'))) (calling n (world_in reader v')) _ u (record { plan = record { value = value.Nothing; effect = effect.Nothing }; numbered = false }) (met n);
      may_end = record { stands = tt; may = tt; room = tt; number_left = λ e. absurd (false≢true e) };
    }

    pub copied_stops : (e : Refusal) → Copied (Err e) → Readies reader code ps run v v' m m' (Err e)
    copied_stops e met = record {
      meets = λ n. err_with m m' (ready_of reader code ps v' (calling n (world_in reader v'))) (calling n (world_in reader v')) _ e _ (met n);
      may_end = tt;
    }

  -- a call that is made ready by another chain, which is the same
  pub readies_alike : (f g : World → Run World Ready) → ((w : World) → f w ≡ g w) → (v v' : processor.World K) (m m' : Meter) (r : Result ReadyCall Refusal) → Readies reader code ps f v v' m m' r → Readies reader code ps g v v' m m' r
  readies_alike f g same v v' m m' r h = record {
    meets = λ n. subst (MeetsWith m m' r (ready_of reader code ps v' (calling n (world_in reader v'))) (calling n (world_in reader v'))) (same (calling n (world_in reader v))) (h.meets n);
    may_end = h.may_end;
  }

-- all but COPY come to an outcome
pub comes_to_outcome : (code : Code) (f : BuiltIn) (ps : List Text) → (f ≡ group.Library Copy → ⊥) → (w : World) → running w (outcome_for code f ps w) ≡ apply code f ps w
comes_to_outcome code (group.Dictionary f) ps other w = refl
comes_to_outcome code (group.Selection f) ps other w = refl
comes_to_outcome code (group.Text f) ps other w = refl
comes_to_outcome code (group.Class f) ps other w = refl
comes_to_outcome code (group.Arithmetic f) ps other w = refl
comes_to_outcome code (group.Comparison f) ps other w = refl
comes_to_outcome code (group.Library Store) ps other w = refl
comes_to_outcome code (group.Library Delete) ps other w = refl
comes_to_outcome code (group.Library Copy) ps other w = absurd (other refl)
comes_to_outcome code (group.Library Names) ps other w = refl
comes_to_outcome code (group.Library Pdf) ps other w = refl
comes_to_outcome code (group.Other f) ps other w = refl
