-- The end of a call: not delivered, or delivered and done. Assumes nothing.
use Rattle.std.proofs.Common.{◌≡◌, ◌<◌, ℕ, Bool, true, false, List, [], Ok, Err, refl, sym, ap, ap₂, subst, ◌∙◌}
use Rattle.library.specs.declared.reader.Reader.{Ghosts as OfReader}
use Rattle.refusal.specs.declared.Refusal.{Refusal}
use Rattle.machine.specs.Texts.{Text, Code}
use Rattle.machine.specs.Chain.{Tally, taken}
use Rattle.machine.specs.World.{World, Ready, calling}
use Rattle.machine.specs.Scan.{State, parameters, placing, deliver}
use Rattle.meter.specs.declared.meter.Meter.{Meter}
use Rattle.meter.specs.declared.question.Question.{Question}
use Rattle.meter.specs.declared.question.Question.TheVariants as question
use Rattle.meter.specs.Metered.{tally, Passed, Short}
use Rattle.scan.specs.declared.roll.Roll.{Roll}
use Rattle.scan.specs.declared.texts.ScanTexts.{ScanTexts}
use Rattle.scan.specs.Standing.{state_in}
use Rattle.scan.specs.Texts.{SameArea}
use Rattle.value.specs.Texts.{value_text}
use Rattle.plan.specs.declared.effect.Effect.{Effect}
use Rattle.plan.specs.declared.effect.Effect.TheVariants.{Nothing, DefineString, Append, CopyString, CopyBuiltIn, EraseNames, MovePointer, Segment, MarkCreation, DefineClass, DefineClassOfOthers, EraseClasses, Store, Delete, Print, Break}
use Rattle.plan.specs.Effects.{performed, placed_by}
use Rattle.delivery.specs.declared.environment.Environment.{Environment}
use Rattle.delivery.specs.Deliveries.{value_of, value_in, need_of}
use Rattle.delivery.proofs.Delivering.{not_delivered, delivered, delivered_with_number}
use Rattle.world.specs.declared.world.World as processor
use Rattle.world.specs.Standing.{world_in}
use Rattle.calls.specs.declared.ready_call.ReadyCall.{ReadyCall}
use Rattle.calls.specs.Ends.{Ends}
use Rattle.calls.specs.ReadyCalls.{ready_of}

-- an effect is the same under any name of the call
performed_under : (code : Code) (ps : List Text) (store : List ℕ) (e : Effect) (n : Text) (w : World) → performed code ps store e (calling n w) ≡ calling n (performed code ps store e w)
performed_under code ps store Nothing n w = refl
performed_under code ps store DefineString n w = refl
performed_under code ps store (Append s) n w = refl
performed_under code ps store (CopyString s) n w = refl
performed_under code ps store (CopyBuiltIn f) n w = refl
performed_under code ps store EraseNames n w = refl
performed_under code ps store (MovePointer k s to) n w = refl
performed_under code ps store (Segment s numbered) n w = refl
performed_under code ps store (MarkCreation s) n w = refl
performed_under code ps store DefineClass n w = refl
performed_under code ps store DefineClassOfOthers n w = refl
performed_under code ps store EraseClasses n w = refl
performed_under code ps store Store n w = refl
performed_under code ps store Delete n w = refl
performed_under code ps store Print n w = refl
performed_under code ps store Break n w = refl

-- a question takes no number
pub numbers_left : (q : Question) (n : ℕ) (m m' : Meter) → Passed q n m m' → m.created < 9999 → m'.created < 9999
numbers_left q n m m' h left = subst (λ k. k < 9999) (sym (ap (λ (t : Tally). t.created) h.counted)) left

module _ {K : Type 0} (reader : OfReader K) (code : Code) (v : processor.World K) (e : Environment K reader) (same_store : e.store.now ≡ v.store.now) (same_library : e.library.now ≡ v.library.now)
    (t : ScanTexts) (q : Roll) (m m' : Meter) (c : ReadyCall) (b : Bool) (breaks : (x : Text) → placed_by c.plan.effect x ≡ value_of b x) (name : Text) (w : World) where
  abbrev s : State
  s = state_in t q w

  abbrev value : Text
  value = value_in code e c.plan.value s

  abbrev made : Ready
  made = ready_of reader code (parameters s) v (calling name (world_in reader v)) c

  is_result : made.result ≡ value_of b value
  is_result = ap₂ (λ x y. placed_by c.plan.effect (value_text code (parameters s) x (reader.meaning y) c.plan.value)) (sym same_store) (sym same_library) ∙ breaks value

  pub not_ended : (r : Refusal) (t' : ScanTexts) → Short question.Value (need_of value s) m m' r → t' ≡ t → SameArea t t' → Ends reader name (deliver s made) v t t' q q m m' (Err r)
  not_ended r t' short undone area = record {
    meets = not_delivered s made b value is_result m m' r _ short;
    same_area = area;
    same_limit = refl;
    undone = (undone, refl);
  }

  module _ (passed : Passed question.Value (need_of value s) m m') (v' : processor.World K) (ps : List Text) (are : ps ≡ parameters s) (done : world_in reader v' ≡ performed code ps v.store.now c.plan.effect (world_in reader v))
      (t₁ t' : ScanTexts) (q' : Roll) (placed : (x : World) → state_in t' q' x ≡ placing (value_of b value) x s) (area : SameArea t t₁) (area' : SameArea t₁ t') (limit : q'.limit ≡ q.limit) where
    same_area_still : SameArea t t'
    same_area_still = record { same_loan = area'.same_loan ∙ area.same_loan; same_size = area'.same_size ∙ area.same_size }

    after : calling [] (world_in reader v') ≡ calling [] made.after
    after =
        ap (calling []) (done ∙ ap (λ x. performed code x v.store.now c.plan.effect (world_in reader v)) are)
        ∙ sym (ap (calling []) (performed_under code (parameters s) v.store.now c.plan.effect name (world_in reader v)))

    is_placed : state_in t' q' (calling [] (world_in reader v')) ≡ placing (value_of b value) (calling [] made.after) s
    is_placed = placed _ ∙ ap (λ x. placing (value_of b value) x s) after

    pub ended : (u : Unit {0}) → c.numbered ≡ false → Ends reader name (deliver s made) v' t t' q q' m m' (Ok u)
    ended u plain = record {
      meets = delivered s made b value is_result m m' passed _ _ is_placed u plain;
      same_area = same_area_still;
      same_limit = limit;
      undone = tt;
    }

    pub ended_with_number : (u : Unit {0}) (m'' : Meter) → c.numbered ≡ true → m''.bounds ≡ m'.bounds → tally m'' ≡ taken (tally m') → Ends reader name (deliver s made) v' t t' q q' m m'' (Ok u)
    ended_with_number u m'' numbered same took = record {
      meets = delivered_with_number s made b value is_result m m' passed _ _ is_placed u m'' numbered same took;
      same_area = same_area_still;
      same_limit = limit;
      undone = tt;
    }
