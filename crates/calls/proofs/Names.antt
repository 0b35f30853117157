-- From what a name means to the call of it. Assumes nothing.
use Rattle.std.proofs.Common.{◌≡◌, ◌≤◌, List, None, Option, Ok, Err, Result, refl, sym, subst, length}
use Rattle.std.specs.Option.{option_map}
use Rattle.library.specs.declared.reader.Reader.{Ghosts as OfReader}
use Rattle.refusal.specs.declared.Refusal.{Refusal}
use Rattle.refusal.specs.declared.Refusal.TheVariants.{FunctionUndefined}
use Rattle.machine.specs.declared.amounts.Amounts.{Amounts}
use Rattle.machine.specs.Texts.{Text, Code}
use Rattle.machine.specs.Dictionary.{look_up}
use Rattle.machine.specs.Dictionary as machine
use Rattle.machine.specs.World.{World, calling}
use Rattle.machine.specs.Libraries.{program_named, retrieve, unless_defined, retrieving}
use Rattle.machine.specs.Functions.{perform, function}
use Rattle.meter.specs.declared.meter.Meter.{Meter}
use Rattle.dictionary.specs.declared.meaning.Meaning.{Meaning}
use Rattle.dictionary.specs.LookingUp.{shown}
use Rattle.scan.specs.Meeting.{Meets}
use Rattle.world.specs.declared.world.World as processor
use Rattle.world.specs.Standing.{world_in, SameMemory}
use Rattle.calls.specs.declared.ready_call.ReadyCall.{ReadyCall}
use Rattle.calls.specs.Ends.{MayCall}
use Rattle.calls.specs.Meeting.{MeetsWith}
use Rattle.calls.specs.ReadyCalls.{ready_of, Readies}
use Rattle.calls.specs.Retrieving.{Means, Retrieves}
use Rattle.calls.proofs.Chains.{with_value, err_with, then_met, then_stopped}

module _ {K : Type 0} (reader : OfReader K) where
  -- with the same memory, and within the same bounds, calls can be made still
  pub still_ready : (v v' : processor.World K) (b b' : Amounts) → SameMemory reader v v' → b' ≡ b → MayCall reader v b → MayCall reader v' b'
  still_ready v v' b b' same bounds h =
      let r = h.ready in
      subst (MayCall reader v') (sym bounds) (record {
        ready = record {
          names = subst (λ n. b.names ≤ n) (sym same.rows) r.names;
          store = subst (λ n. b.store ≤ n) (sym same.store) r.store;
          print = subst (λ n. b.print ≤ n) (sym same.print) r.print;
          called = subst (λ n. b.scan ≤ n) (sym same.called) r.called;
          scratch = subst (λ n. n ≤ length v'.scratch.now) (sym same.store) (subst (λ n. length v.store.now ≤ n) (sym same.scratch) r.scratch);
          small_store = r.small_store;
          small_print = r.small_print;
          small_scan = r.small_scan;
        };
        small = subst (λ n. n ≤ 32768) (sym same.store) h.small;
      })

  module _ (code : Code) (name : Text) (v v' : processor.World K) (m m' : Meter) where
    abbrev here : Text → World
    here n = calling n (world_in reader v)

    abbrev there : Text → World
    there n = calling n (world_in reader v')

    -- A name that means nothing was sought as a program.
    module _ (nothing : Means code name v None) where
      abbrev Sought : Result (Unit {0}) Refusal → Type 0
      Sought r = (n : Text) → Meets m m' r (there n) (there n) (retrieve code (program_named name (reader.meaning v.library.now)) (here n))

      sought : (r : Result (Option Meaning) Refusal) (n : Text) → MeetsWith m m' r (λ found. there n) (there n) (retrieve code (program_named name (reader.meaning v.library.now)) (here n)) →
          MeetsWith m m' r (λ found. there n) (there n) (retrieving code name (here n))
      sought r n h =
          let P : Option machine.Meaning → Type 0 = λ o. MeetsWith m m' r (λ found. there n) (there n) (unless_defined code o name (here n)) in
          subst P nothing.meaning h

      pub sought_passes : (u : Unit {0}) (found : Option Meaning) → Sought (Ok u) → Means code name v' found → Retrieves reader code name v v' m m' (Ok found)
      sought_passes u found h k = record { meets = λ n. sought (Ok found) n (with_value m m' (λ o. there n) (there n) _ u found (h n)); means = k }

      pub sought_stops : (e : Refusal) → Sought (Err e) → Retrieves reader code name v v' m m' (Err e)
      sought_stops e h = record { meets = λ n. sought (Err e) n (err_with m m' (λ o. there n) (there n) _ e _ (h n)); means = tt }

    -- The call of the name follows.
    module _ (ps : List Text) where
      pub call_stops : (e : Refusal) → Retrieves reader code name v v' m m' (Err e) → Readies reader code ps (function code name ps) v v' m m' (Err e)
      call_stops e h = record {
        meets = λ n. then_stopped m m' m' (Err e) (λ found. there n) (ready_of reader code ps v' (there n)) (there n) (there n) (retrieving code name (here n)) (λ w. perform code (look_up code w.dictionary name) ps w) e (h.meets n);
        may_end = tt;
      }

      pub call_goes_on : (found : Option Meaning) → Retrieves reader code name v v' m m' (Ok found) →
          (v'' : processor.World K) (m'' : Meter) (r : Result ReadyCall Refusal) → Readies reader code ps (perform code (option_map (shown v'.store.now) found) ps) v' v'' m' m'' r →
          Readies reader code ps (function code name ps) v v'' m m'' r
      call_goes_on found h v'' m'' r k = record {
        meets = λ n.
            let w : World = calling n (world_in reader v'') in
            let P : Option machine.Meaning → Type 0 = λ o. MeetsWith m' m'' r (ready_of reader code ps v'' w) w (perform code o ps (there n)) in
            then_met m m' m'' r (λ found. there n) (ready_of reader code ps v'' w) (there n) w (retrieving code name (here n)) (λ w. perform code (look_up code w.dictionary name) ps w) found (h.meets n) (subst P h.means.meaning (k.meets n));
        may_end = k.may_end;
      }

-- a name that means nothing still
pub undefined_stops : {K : Type 0} (reader : OfReader K) (code : Code) (ps : List Text) (v : processor.World K) (m : Meter) → Readies reader code ps (perform code None ps) v v m m (Err FunctionUndefined)
undefined_stops reader code ps v m = record { meets = λ n. record { bounds_stay = refl; as_defined = refl }; may_end = tt }
