-- What functions come to that begin with the string of a name, in the worlds that sources show.
use Rattle.std.proofs.Common.{◌≡◌, ℕ, ◌+◌, ◌≤◌, ◌==◌, not, Some, List, [], ◌∷◌, length, take, drop, Ok, Err, refl, sym, ap, subst, arith, length-take, length-drop}
use Rattle.std.specs.Prelude.{Result}
use Rattle.std.proofs.Math.Dec.{eqb-suc-zero}
use Rattle.std.specs.Result.{IsErrAnd}
use Rattle.code.specs.declared.Code.{Ghosts as OfCode}
use Rattle.library.specs.declared.reader.Reader.{Ghosts as OfReader}
use Rattle.refusal.specs.declared.Refusal.{Refusal}
use Rattle.machine.specs.Texts.{Text, not_empty, found_at}
use Rattle.machine.specs.Dictionary.{Str, rest_of}
use Rattle.machine.specs.World.{World, Outcome, of_string, parameter, valued, changing, with_string}
use Rattle.machine.specs.Selection.{passing}
use Rattle.dictionary.specs.declared.string_place.StringPlace.{StringPlace}
use Rattle.dictionary.specs.Finding.{Standing}
use Rattle.dictionary.specs.Strings.{place_of, string_in}
use Rattle.value.specs.declared.sources.Sources.{Sources}
use Rattle.value.specs.declared.value.Value.{Value}
use Rattle.value.specs.Taking.{text_from, Stands}
use Rattle.plan.specs.declared.plan.Plan.{Plan}
use Rattle.plan.specs.declared.effect.Effect.TheVariants.{Nothing, MovePointer}
use Rattle.plan.specs.Plans.{Plans, Planned, GoesOn, Stops}
use Rattle.machine.proofs.Passing.{Room, found_room}
use Rattle.plan.proofs.Planning.{stopped_at, then_plans}

-- a pointer that moves past bytes that are left stays within the body
pub stays_within : (string : StringPlace) (store : List ℕ) (k : ℕ) → k ≤ length (rest_of (string_in string store)) → string.extent.pointer + k ≤ string.extent.length
stays_within string store k h =
    let body = drop (string.start + string.name) store in
    omega (arith, h, string.extent.within, length-drop string.extent.pointer (take string.extent.length body), length-take string.extent.length body)

-- a text that is found ends within the text
pub found_within : (p t : Text) (k : ℕ) → found_at p t ≡ Some k → k + length p ≤ length t
found_within p t k is = subst (Room (length p) (length t)) is (found_room p t)

pub emptiness : (t : Text) → not_empty t ≡ not (length t == 0)
emptiness [] = refl
emptiness (x ∷ xs) = ap not (sym (eqb-suc-zero (length xs)))

module _ {C R : Type 0} {code : OfCode C} {reader : OfReader R} (s : Sources C R code reader) where
  -- the attempt that a function begins with stops
  pub stopped : {V : Type 0} (attempt : World → (V → Outcome) → Outcome) (rest : World → V → Outcome) (e : Refusal) (r : Result Plan Refusal)
      → Stops s attempt e → IsErrAnd r (λ x. x ≡ e) → Plans s (λ w. attempt w (rest w)) r
  stopped attempt rest e (Ok p) stops is = absurd is
  stopped attempt rest e (Err x) stops is =
      let P : Refusal → Type 0 = λ x. Plans s (λ w. attempt w (rest w)) (Err x) in
      subst P (sym is) (stopped_at s attempt rest e stops)

  -- the string that a parameter names, in the worlds
  abbrev pub Found : ℕ → StringPlace → Type 0
  Found n string = GoesOn s (of_string code.meaning (parameter n s.parameters.now)) (string_in string s.store.now)

  abbrev pub Named : ℕ → StringPlace → Type 0
  Named n string = Standing s.dictionary.now s.store.now (parameter n s.parameters.now) (place_of string)

  -- a function begins with that string, and comes to a value there
  pub then_values : (n : ℕ) (string : StringPlace) (v : Value) (p : Plan) (rest : World → Str → Outcome)
      → Found n string → Stands s v → p ≡ record { value = v; effect = Nothing }
      → ((w : World) → rest w (string_in string s.store.now) ≡ valued (text_from s v) w)
      → Planned s (λ w. of_string code.meaning (parameter n s.parameters.now) w (rest w)) p
  then_values n string v p rest found stands is comes =
      let P : Plan → Type 0 = λ p. Planned s (λ w. of_string code.meaning (parameter n s.parameters.now) w (rest w)) p in
      subst P (sym is) (then_plans s (of_string code.meaning (parameter n s.parameters.now)) rest (string_in string s.store.now) (Ok (record { value = v; effect = Nothing })) found
      (record { stands = stands; may = tt; comes = λ w sees. comes w }))

  -- comes to a value there, and the pointer of the string moves to a place
  pub then_moves : (n : ℕ) (string : StringPlace) (to : ℕ) (v : Value) (p : Plan) (rest : World → Str → Outcome)
      → Found n string → Named n string → to ≤ string.extent.length → Stands s v → p ≡ record { value = v; effect = MovePointer n string to }
      → ((w : World) → rest w (string_in string s.store.now) ≡ changing (text_from s v) (with_string (parameter n s.parameters.now) (record { body = (string_in string s.store.now).body; pointer = to }) w))
      → Planned s (λ w. of_string code.meaning (parameter n s.parameters.now) w (rest w)) p
  then_moves n string to v p rest found named within stands is comes =
      let P : Plan → Type 0 = λ p. Planned s (λ w. of_string code.meaning (parameter n s.parameters.now) w (rest w)) p in
      subst P (sym is) (then_plans s (of_string code.meaning (parameter n s.parameters.now)) rest (string_in string s.store.now) (Ok (record { value = v; effect = MovePointer n string to })) found
      (record { stands = stands; may = record { standing = named; within = within }; comes = λ w sees. comes w }))

  -- past so many bytes that are left
  pub then_passes : (n : ℕ) (string : StringPlace) (k : ℕ) (v : Value) (p : Plan) (rest : World → Str → Outcome)
      → Found n string → Named n string → k ≤ length (rest_of (string_in string s.store.now)) → Stands s v
      → p ≡ record { value = v; effect = MovePointer n string (string.extent.pointer + k) }
      → ((w : World) → rest w (string_in string s.store.now) ≡ passing (parameter n s.parameters.now) (string_in string s.store.now) k (text_from s v) w)
      → Planned s (λ w. of_string code.meaning (parameter n s.parameters.now) w (rest w)) p
  then_passes n string k v p rest found named within stands is comes =
      then_moves n string (string.extent.pointer + k) v p rest found named (stays_within string s.store.now k within) stands is comes
