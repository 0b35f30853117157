-- What is read off a roll. Assumes nothing.
use Rattle.std.proofs.Common.{◌≡◌, ℕ, zero, suc, ◌+◌, ◌-◌, ◌<◌, ◌≤◌, Bool, true, false, cond, eqb, ltb, List, [], ◌∷◌, length, map, drop, take, Some, None, Option, refl, sym, ap, ap₂, ◌∙◌, arith, length-drop}
use Rattle.std.specs.Option.{unwrap_or}
use Rattle.std.specs.List.{range_with_len}
use Rattle.std.proofs.lemmas.Bool.Decides.{nat_tests}
use Rattle.std.proofs.lemmas.Bool.{cond-true, cond-false, eqb-true, eqb-false}
use Rattle.std.proofs.lemmas.List.{get_or-drop}
use Rattle.machine.specs.declared.roll.RollEntry.{RollEntry}
use Rattle.machine.specs.Texts.{Text}
use Rattle.scan.specs.Openings.{Opens, LastOpening}
use Rattle.machine.specs.Scan.{opens, entry_at, opening, innermost, field, field_end}

module _ (roll : List RollEntry) where
  none_opens : (n : ℕ) → ((k : ℕ) → k ≤ n → Opens roll k false) → opening roll n ≡ 0
  none_opens zero h = refl
  none_opens (suc n) h = cond-false _ _ _ (h (suc n) (omega arith)) ∙ none_opens n (λ k l. h k (omega arith))

  last_opens : (n i : ℕ) → i ≤ n → Opens roll i true → ((k : ℕ) → i < k → k ≤ n → Opens roll k false) → opening roll n ≡ i
  last_opens zero i h e f = omega arith
  last_opens (suc n) i h e f = go (eqb i (suc n)) refl (λ l. last_opens n i l e (λ k l m. f k l (omega arith)))
    where
      go : (b : Bool) → eqb i (suc n) ≡ b → (i ≤ n → opening roll n ≡ i) → opening roll (suc n) ≡ i
      go true t below = let same = eqb-true i (suc n) t in cond-true _ _ _ (ap (λ k. opens (entry_at roll k).begins) (sym same) ∙ e) ∙ sym same
      go false t below =
          let other = eqb-false i (suc n) t in
          cond-false _ _ _ (f (suc n) (omega (arith, other)) (omega arith)) ∙ below (omega (arith, other))

pub found_opening : (roll : List RollEntry) (r : Option ℕ) → LastOpening roll r → unwrap_or r 0 ≡ innermost roll
found_opening [] None h = refl
found_opening (x ∷ q) None h = sym (none_opens (x ∷ q) (length (x ∷ q) - 1) (λ k l. h k (omega arith)))
found_opening roll (Some i) h = sym (last_opens roll (length roll - 1) i (omega arith) h.1 (λ k l m. h.2 k l (omega arith)))

-- FIELDS

module _ (roll : List RollEntry) (left : Text) (m : ℕ) where
  -- an entry counted from m on
  entry_behind : (k : ℕ) → entry_at (drop m roll) k ≡ entry_at roll (m + k)
  entry_behind k = get_or-drop m roll k _

  end_behind : (k : ℕ) → field_end (drop m roll) left k ≡ field_end roll left (m + k)
  end_behind k =
      let size : length (drop m roll) ≡ length roll - m = length-drop m roll in
      let next : m + (k + 1) ≡ m + k + 1 = omega arith in
      let test : ltb (k + 1) (length roll - m) ≡ ltb (m + k + 1) (length roll) = grind (arith, nat_tests) in
      ap (λ n. cond (ltb (k + 1) n) (entry_at (drop m roll) (k + 1)).at (length left)) size
      ∙ ap₂ (λ t n. cond t n (length left)) test (ap (λ (e : RollEntry). e.at) (entry_behind (k + 1) ∙ ap (entry_at roll) next))

  pub field_behind : (k : ℕ) → field (drop m roll) left k ≡ field roll left (m + k)
  field_behind k = ap₂ (λ end start. take (end - start) (drop start left)) (end_behind k) (ap (λ (e : RollEntry). e.at) (entry_behind k))

-- numbers in a row, counted from another
shifted : {X : Type 0} (f g : ℕ → X) (m a n : ℕ) → ((k : ℕ) → g k ≡ f (m + k)) → map g (range_with_len a n) ≡ map f (range_with_len (m + a) n)
shifted f g m a zero h = refl
shifted f g m a (suc n) h =
    let next : m + (a + 1) ≡ m + a + 1 = omega arith in
    ap₂ (λ x xs. x ∷ xs) (h a) (shifted f g m (a + 1) n h ∙ ap (λ b. map f (range_with_len b n)) next)

pub fields_behind : (roll : List RollEntry) (left : Text) (m : ℕ) →
    map (field (drop m roll) left) (range_with_len 0 (length (drop m roll))) ≡ map (field roll left) (range_with_len m (length roll - m))
fields_behind roll left m =
    let start : m + 0 ≡ m = omega arith in
    ap (λ n. map (field (drop m roll) left) (range_with_len 0 n)) (length-drop m roll)
    ∙ shifted (field roll left) (field (drop m roll) left) m 0 (length roll - m) (field_behind roll left m)
    ∙ ap (λ b. map (field roll left) (range_with_len b (length roll - m))) start
