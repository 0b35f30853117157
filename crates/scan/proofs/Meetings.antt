-- How parts of a chain that are met make up the whole, and the scan from one step to the next. Assumes nothing.
use Rattle.std.proofs.Common.{◌≡◌, ℕ, zero, suc, ◌+◌, true, false, leb, Ok, Err, Result, sym, ap, ap₂, ◌∙◌}
use Rattle.std.proofs.lemmas.Bool.{le-leb, lt-leb}
use Rattle.refusal.specs.declared.Refusal.{Refusal}
use Rattle.machine.specs.Texts.{Code, not_empty}
use Rattle.machine.specs.Chain.{Run, ask, ◌>>=◌, Tally, Came, stopped, kind, amount, walk}
use Rattle.machine.specs.ChainLaws.{and_then}
use Rattle.machine.specs.World.{World}
use Rattle.machine.specs.Scan.{State, step, ending, scanning}
use Rattle.machine.proofs.Walking.{walk_of_bind}
use Rattle.meter.specs.declared.meter.Meter.{Meter}
use Rattle.meter.specs.declared.question.Question.{Question}
use Rattle.meter.specs.declared.question.Question.TheVariants.{Step}
use Rattle.meter.specs.Metered.{asked, tally, Passed, Short}
use Rattle.scan.specs.Meeting.{Meets}

-- A question that the meter let pass, and one that it did not.

module _ {A : Type 0} (q : Question) (n : ℕ) (m m' m'' : Meter) (r : Result (Unit {0}) Refusal) (after : A) (left w : World) (run : Run World A) where
  pub on_passed : Passed q n m m' → Meets m' m'' r after left run → Meets m m'' r after left (ask (asked q) n w run)
  on_passed p h =
      let room : leb n (amount (kind (asked q)) m.bounds) ≡ true = le-leb n _ p.fits in
      record {
        bounds_stay = h.bounds_stay ∙ p.bounds_stay;
        as_defined = rw room (h.as_defined ∙ ap₂ (λ b t. walk b t run) p.bounds_stay p.counted);
      }

  pub on_short : (e : Refusal) → Short q n m m' e → Meets m m' (Err e) after w (ask (asked q) n w run)
  on_short e s =
      let full : leb n (amount (kind (asked q)) m.bounds) ≡ false = lt-leb n _ s.misfits in
      record {
        bounds_stay = ap (λ (x : Meter). x.bounds) s.unchanged;
        as_defined = rw full (ap₂ (λ x y. stopped x w y) s.says (ap tally s.unchanged));
      }

-- One chain and then another.

module _ {A B : Type 0} (m m' m'' : Meter) (r : Result (Unit {0}) Refusal) (a : A) (b : B) (left left' : World) (run : Run World A) (f : A → Run World B) where
  pub on_ok : (u : Unit {0}) → Meets m m' (Ok u) a left run → Meets m' m'' r b left' (f a) → Meets m m'' r b left' (run >>= f)
  on_ok u h k = record {
    bounds_stay = k.bounds_stay ∙ h.bounds_stay;
    as_defined =
        k.as_defined ∙ ap (λ x. walk x (tally m') (f a)) h.bounds_stay
        ∙ ap (λ x. and_then x (λ c t. walk m.bounds t (f c))) h.as_defined ∙ sym (walk_of_bind m.bounds f (tally m) run);
  }

  pub on_err : (e : Refusal) → Meets m m' (Err e) a left run → Meets m m' (Err e) b left (run >>= f)
  on_err e h = record {
    bounds_stay = h.bounds_stay;
    as_defined = ap (λ x. and_then x (λ c t. walk m.bounds t (f c))) h.as_defined ∙ sym (walk_of_bind m.bounds f (tally m) run);
  }

-- The scan behind n steps: the question of the next step, the step, and the rest.

module _ (code : Code) (n : ℕ) (s after : State) (m m' : Meter) where
  abbrev rest : ℕ → State → Run World State
  rest more t = scanning code more (n + 1) t

  pub scan_on : (more : ℕ) (m'' : Meter) (u : Unit {0}) (t : State) (left : World) → not_empty s.right ≡ true → Passed Step (n + 1) m m' → Meets m' m'' (Ok u) t left (step code s) →
      walk m.bounds (tally m) (scanning code (suc more) n s) ≡ walk m''.bounds (tally m'') (scanning code more (n + 1) t)
  unfolding scanning
  scan_on more m'' u t left some p h =
      let room : leb (n + 1) (amount (kind (asked Step)) m.bounds) ≡ true = le-leb (n + 1) _ p.fits in
      let go : State → Tally → Came World State = λ c v. walk m'.bounds v (rest more c) in
      rw (some, room)
      (ap₂ (λ x y. walk x y (step code s >>= rest more)) (sym p.bounds_stay) (sym p.counted)
      ∙ walk_of_bind m'.bounds (rest more) (tally m') (step code s)
      ∙ ap (λ x. and_then x go) (sym h.as_defined)
      ∙ ap (λ x. walk x (tally m'') (rest more t)) (sym h.bounds_stay))

  pub scan_stops : (more : ℕ) (m'' : Meter) (e : Refusal) (t : State) (left : World) → not_empty s.right ≡ true → Passed Step (n + 1) m m' →
      Meets m' m'' (Err e) t left (step code s) → Meets m m'' (Err e) after left (scanning code (suc more) n s)
  unfolding scanning
  scan_stops more m'' e t left some p h =
      rw some (on_passed Step (n + 1) m m' m'' (Err e) after left s.world (step code s >>= rest more) p (on_err m' m'' m'' (Err e) t after left left (step code s) (rest more) e h))

  pub scan_short : (more : ℕ) (e : Refusal) → not_empty s.right ≡ true → Short Step (n + 1) m m' e → Meets m m' (Err e) after s.world (scanning code more n s)
  unfolding scanning
  scan_short zero e some h = rw some (on_short Step (n + 1) m m' m' (Err e) after s.world s.world (step code s) e h)
  scan_short (suc more) e some h = rw some (on_short Step (n + 1) m m' m' (Err e) after s.world s.world (step code s >>= rest more) e h)

  pub scan_ends : (more : ℕ) (r : Result (Unit {0}) Refusal) (left : World) → not_empty s.right ≡ false → Meets m m' r after left (ending s) → Meets m m' r after left (scanning code more n s)
  unfolding scanning
  scan_ends zero r left none h = rw none h
  scan_ends (suc more) r left none h = rw none h
