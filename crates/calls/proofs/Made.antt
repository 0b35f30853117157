-- The call, from its name to its end. Assumes nothing.
use Rattle.std.proofs.Common.{◌≡◌, ◌-◌, ◌≤◌, List, [], length, drop, Ok, Err, Result, refl, ap, ap₂, subst, ◌∙◌, arith, length-take, length-drop}
use Rattle.library.specs.declared.reader.Reader.{Ghosts as OfReader}
use Rattle.refusal.specs.declared.Refusal.{Refusal}
use Rattle.machine.specs.Texts.{Text, Code}
use Rattle.machine.specs.Chain.{Run, stopped}
use Rattle.machine.specs.World.{World, Ready, calling}
use Rattle.machine.specs.Functions.{function}
use Rattle.machine.specs.Scan.{State, entry_at, innermost, field_end, called_name, parameters, deliver, make_call}
use Rattle.meter.specs.declared.meter.Meter.{Meter}
use Rattle.meter.specs.Metered.{tally}
use Rattle.scan.specs.declared.roll.Roll.{Roll}
use Rattle.scan.specs.declared.texts.ScanTexts.{ScanTexts}
use Rattle.scan.specs.Making.{GoesIn}
use Rattle.scan.specs.Standing.{state_in}
use Rattle.scan.specs.Texts.{left_of}
use Rattle.scan.proofs.Meetings.{on_ok}
use Rattle.world.specs.declared.world.World as processor
use Rattle.world.specs.Standing.{world_in}
use Rattle.calls.specs.declared.ready_call.ReadyCall.{ReadyCall}
use Rattle.calls.specs.Ends.{Ends}
use Rattle.calls.specs.ReadyCalls.{ready_of, Readies}
use Rattle.calls.proofs.Chains.{without_value, err_without, then_stopped}

module _ {K : Type 0} (reader : OfReader K) (code : Code) (v v₁ : processor.World K) (t : ScanTexts) (q : Roll) (m m₁ : Meter) where
  abbrev s : State
  s = state_in t q (world_in reader v)

  abbrev name : Text
  name = called_name s

  abbrev left : World
  left = calling name (world_in reader v₁)

  abbrev made : ReadyCall → Ready
  made c = ready_of reader code (parameters s) v₁ left c

  abbrev run : Run World Ready
  run = function code name (parameters s) (calling name (world_in reader v))

  -- the name and the parameters were read
  module _ (n : Text) (is_name : n ≡ name) (ps : List Text) (are : ps ≡ parameters s) where
    abbrev MadeReady : Result ReadyCall Refusal → Text → List Text → Type 0
    MadeReady r x xs = Readies reader code xs (function code x xs) v v₁ m m₁ r

    as_read : (r : Result ReadyCall Refusal) → MadeReady r n ps → MadeReady r name (parameters s)
    as_read r h = subst (λ x. MadeReady r x (parameters s)) is_name (subst (MadeReady r n) are h)

    pub not_ready : (e : Refusal) → MadeReady (Err e) n ps → Ends reader name (make_call code s) v₁ t t q q m m₁ (Err e)
    not_ready e h =
        let after : State = state_in t q (calling [] (world_in reader v₁)) in
        let shows : Unit {0} → State = λ u. after in
        record {
          meets = err_without m m₁ shows left (make_call code s) e after (then_stopped m m₁ m₁ (Err e) made shows left left run (deliver s) e ((as_read (Err e) h).meets name));
          same_area = record { same_loan = refl; same_size = refl };
          same_limit = refl;
          undone = (refl, refl);
        }

    pub ready_then : (c : ReadyCall) (u : Unit {0}) → MadeReady (Ok c) n ps → (v' : processor.World K) (t' : ScanTexts) (q' : Roll) (m' : Meter) (r : Result (Unit {0}) Refusal) →
        Ends reader name (deliver s (made c)) v' t t' q q' m₁ m' r → Ends reader name (make_call code s) v' t t' q q' m m' r
    ready_then c u h v' t' q' m' r k = record {
      meets = on_ok m m₁ m' r (made c) _ left _ run (deliver s) u (without_value m m₁ made left run u c ((as_read (Ok c) h).meets name)) k.meets;
      same_area = k.same_area;
      same_limit = k.same_limit;
      undone = k.undone;
    }

-- A CALL THAT WAS REFUSED, AND ITS NAME

-- the name has room where the left text has it
pub name_fits : (t : ScanTexts) (q : Roll) (w : World) → length (called_name (state_in t q w)) ≤ length t.area.now
name_fits t q w =
    let roll = q.entries.items in
    let j = innermost roll in
    let start = (entry_at roll j).at in
    let size = field_end roll (left_of t) j - start in
    omega (arith, length-take size (drop start (left_of t)), length-drop start (left_of t), length-take t.left t.area.now)

-- it was read off the texts after the refusal, and is kept
pub goes_refused : {K : Type 0} (reader : OfReader K) (code : Code) (v v' : processor.World K) (t t' : ScanTexts) (q q' : Roll) (m m' : Meter) (e : Refusal) (n : Text) → n ≡ called_name (state_in t' q' (world_in reader v)) →
    Ends reader (called_name (state_in t q (world_in reader v))) (make_call code (state_in t q (world_in reader v))) v' t t' q q' m m' (Err e) →
    GoesIn (make_call code) (world_in reader v) (calling n (world_in reader v')) t t' q q' m m' (Err e)
goes_refused reader code v v' t t' q q' m m' e n is h =
    let same_name : n ≡ called_name (state_in t q (world_in reader v)) = is ∙ ap₂ (λ x y. called_name (state_in x y (world_in reader v))) h.undone.0 h.undone.1 in
    record {
      meets = record { bounds_stay = h.meets.bounds_stay; as_defined = ap (λ x. stopped e (calling x (world_in reader v')) (tally m')) same_name ∙ h.meets.as_defined };
      same_area = h.same_area;
      same_limit = h.same_limit;
    }
