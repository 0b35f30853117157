-- Steps of the last rule, one after another, as one move. Assumes nothing.
use Rattle.std.proofs.Common.{◌≡◌, ◌≢◌, ℕ, zero, suc, ◌+◌, ◌-◌, ◌<◌, ◌≤◌, max, min, zero-add, true, leb, [], ◌∷◌, ◌++◌, length, take, drop, refl, sym, ap, ap₂, subst, ◌∙◌, arith, length-drop}
use Rattle.std.proofs.Math.Seq.{take-add}
use Rattle.std.proofs.lemmas.List.{append_assoc, drop-drop}
use Rattle.std.proofs.lemmas.Bool.{le-leb}
use Rattle.machine.specs.declared.amounts.Amounts.{Amounts}
use Rattle.machine.specs.Texts.{Text, Code, not_empty}
use Rattle.machine.specs.Chain.{steps, Tally, passed, walk}
use Rattle.machine.specs.Scan.{State, inside, moving, step, scanning}
use Rattle.machine.specs.World.{World}
use Rattle.meter.specs.declared.meter.Meter.{Meter}
use Rattle.meter.specs.declared.question.Question.TheVariants.{Step}
use Rattle.meter.specs.Metered.{tally, Passed}
use Rattle.scan.specs.declared.texts.ScanTexts.{ScanTexts}
use Rattle.scan.specs.declared.roll.Roll.{Roll}
use Rattle.scan.specs.Texts.{left_of, right_of, Become}
use Rattle.scan.specs.Standing.{state_in}
use Rattle.scan.specs.Running.{ByLast, PlainRun, Passes}

some : (t : Text) → 1 ≤ length t → not_empty t ≡ true
some [] h = absurd (omega arith)
some (b ∷ t) h = refl

moved_on : (k : ℕ) (s : State) → moving (suc k) (moving 1 s) ≡ moving (suc (suc k)) s
moved_on k s i =
    let both : 1 + suc k ≡ suc (suc k) = omega arith in
    record {
      left = (append_assoc s.left (take 1 s.right) (take (suc k) (drop 1 s.right)) ∙ ap (λ x. s.left ++ x) (sym (take-add 1 (suc k) s.right) ∙ ap (λ n. take n s.right) both)) i;
      right = (drop-drop (suc k) 1 s.right ∙ ap (λ n. drop n s.right) both) i;
      roll = s.roll;
      world = s.world;
    }

counted_on : (n m : ℕ) (t : Tally) → n ≤ m → passed steps m (passed steps n t) ≡ passed steps m t
counted_on n m t h i =
    let most : max (max t.needs.steps n) m ≡ max t.needs.steps m = omega arith in
    record {
      needs = record { names = t.needs.names; roll = t.needs.roll; store = t.needs.store; scan = t.needs.scan; print = t.needs.print; steps = most i };
      created = t.created;
      wanted = t.wanted;
    }

module _ (code : Code) (b : Amounts) where
  one_step : (s : State) (t : Tally) (more n : ℕ) → 1 ≤ length s.right → ByLast code (inside s) s.right → n + 1 ≤ b.steps →
      walk b t (scanning code (suc more) n s) ≡ walk b (passed steps (n + 1) t) (scanning code more (n + 1) (moving 1 s))
  unfolding scanning step
  one_step s t more n h p l =
      let room : leb (n + 1) b.steps ≡ true = le-leb (n + 1) b.steps l in
      rw (some s.right h, room, p.is_last)

  -- one step and k others
  pub run_of_steps : (k : ℕ) (s : State) (t : Tally) (more n : ℕ) → suc k ≤ length s.right → ((j : ℕ) → j < suc k → ByLast code (inside s) (drop j s.right)) → n + suc k ≤ b.steps →
      walk b t (scanning code (suc k + more) n s) ≡ walk b (passed steps (n + suc k) t) (scanning code more (n + suc k) (moving (suc k) s))
  run_of_steps zero s t more n h p l = ap (λ m. walk b t (scanning code m n s)) (omega arith) ∙ one_step s t more n h (p 0 (omega arith)) l
  run_of_steps (suc k) s t more n h p l =
      let all : suc (suc k) + more ≡ suc (suc k + more) = omega arith in
      let last : n + 1 + suc k ≡ n + suc (suc k) = omega arith in
      let size : length (drop 1 s.right) ≡ length s.right - 1 = length-drop 1 s.right in
      let next : (j : ℕ) → j < suc k → ByLast code (inside s) (drop j (drop 1 s.right))
      = λ j i. subst (ByLast code (inside s)) (sym (drop-drop j 1 s.right)) (p (1 + j) (omega arith))
      in
      ap (λ m. walk b t (scanning code m n s)) all
      ∙ one_step s t (suc k + more) n (omega arith) (p 0 (omega arith)) (omega arith)
      ∙ run_of_steps k (moving 1 s) (passed steps (n + 1) t) more (n + 1) (omega (arith, size)) next (omega arith)
      ∙ ap₂ (λ u v. walk b u (scanning code more (n + 1 + suc k) v)) (counted_on (n + 1) (n + 1 + suc k) t (omega arith)) (moved_on k s)
      ∙ ap (λ m. walk b (passed steps m t) (scanning code more m (moving (suc (suc k)) s))) last

module _ (code : Code) (t t' : ScanTexts) (q : Roll) (m m' : Meter) (n : ℕ) where
  -- where k steps are made, the scan goes on as from here
  abbrev pub GoesOnBehind : ℕ → Type 0
  GoesOnBehind k = (more : ℕ) (w : World) → walk m.bounds (tally m) (scanning code (k + more) n (state_in t q w)) ≡ walk m'.bounds (tally m') (scanning code more (n + k) (state_in t' q w))

  moved_state : (k : ℕ) → Become t t' (left_of t ++ take k (right_of t)) (drop k (right_of t)) → (w : World) → moving k (state_in t q w) ≡ state_in t' q w
  moved_state k h w i = record { left = sym h.left_is i; right = sym h.right_is i; roll = q.entries.items; world = w }

  pub behind_run : (k : ℕ) → k ≢ 0 → k ≤ length (right_of t) → ((j : ℕ) → j < k → ByLast code (not_empty q.entries.items) (drop j (right_of t))) → n + k ≤ m.bounds.steps →
      Become t t' (left_of t ++ take k (right_of t)) (drop k (right_of t)) → Passed Step (n + k) m m' → GoesOnBehind k
  behind_run zero z h p l moved counted more w = absurd (z refl)
  behind_run (suc k) z h p l moved counted more w =
      run_of_steps code m.bounds k (state_in t q w) (tally m) more n h p l
      ∙ ap₂ (λ u s. walk m.bounds u (scanning code more (n + suc k) s)) (sym counted.counted) (moved_state (suc k) moved w)
      ∙ ap (λ b. walk b (tally m') (scanning code more (n + suc k) (state_in t' q w))) (sym counted.bounds_stay)

  pub passes_run : (run k : ℕ) → PlainRun code (not_empty q.entries.items) (right_of t) run → k ≡ min run (m.bounds.steps - n) → 0 < k →
      Become t t' (left_of t ++ take k (right_of t)) (drop k (right_of t)) → Passed Step (n + k) m m' → Passes code t t' q m m' n (n + k)
  passes_run run k h e z moved counted =
      let far : n + k ≤ m.bounds.steps = omega arith in
      let within : k ≤ length (right_of t) = omega (arith, h.within) in
      record {
        run = run;
        is_plain = h;
        as_far = ap (λ x. n + x) e;
        same_scan = λ more w. ap (λ x. walk m.bounds (tally m) (scanning code (x + more) n (state_in t q w))) (sym e) ∙ behind_run k (omega arith) within (λ j l. h.plain j (omega arith)) far moved counted more w;
        bounds_stay = counted.bounds_stay;
        same_area = moved.same_area;
      }

pub passes_nothing : (code : Code) (t : ScanTexts) (q : Roll) (m : Meter) (n run k : ℕ) → PlainRun code (not_empty q.entries.items) (right_of t) run → k ≡ min run (m.bounds.steps - n) → k ≤ 0 → Passes code t t q m m n (n + k)
passes_nothing code t q m n run k h e z =
    let none : min run (m.bounds.steps - n) ≡ 0 = omega arith in
    let same : n ≡ n + k = omega arith in
    record {
      run = run;
      is_plain = h;
      as_far = ap (λ x. n + x) e;
      same_scan = λ more w. ap₂ (λ x y. walk m.bounds (tally m) (scanning code x y (state_in t q w))) (ap (λ x. x + more) none ∙ zero-add more) same;
      bounds_stay = refl;
      same_area = record { same_loan = refl; same_size = refl };
    }
