-- A step goes by one rule. Assumes nothing.
use Rattle.std.proofs.Common.{◌≡◌, ℕ, suc, Bool, true, false, ◌&&◌, eqb, List, [], ◌∷◌, ◌++◌, length, take, drop, Some, None, codes, Option, sym, refl, ap, ◌∙◌, add-one}
use Rattle.std.proofs.lemmas.List.{drop-drop}
use Rattle.std.proofs.lemmas.Bool.{both_ways, and_parts, and_from, cond_both, cond-false, eqb-true, eqb-false, ne_eqb}
use Rattle.code.specs.Meaning.{CodeLaws, named_char}
use Rattle.machine.specs.declared.roll.Begins.TheVariants.{ActiveCall, PassiveCall, Parameter}
use Rattle.machine.specs.declared.rule.Rule.{Rule}
use Rattle.machine.specs.declared.rule.Rule.TheVariants.{EndOfLine, Escape, OpenPassive, OpenActive, Bracket, Separator, Close, Other}
use Rattle.machine.specs.Texts.{Text, Code, spelled, begins, not_empty}
use Rattle.machine.specs.Faults.{unmatched}
use Rattle.machine.specs.Chain.{Run, give, fault}
use Rattle.machine.specs.World.{World}
use Rattle.machine.specs.Scan.{State, inside, rule, match_of, unbracketing, make_call, by_rule, step}
use Rattle.machine.specs.Rules.{with_texts, opened, PlainFront, GoesOn, drops_line, escapes, opens_passive, opens_active, unbrackets, finds_no_match, separates, calls, passes, EveryStepGoesByOneRule}
use Rattle.machine.proofs.Common.{never, false_from, itself, begun, not_begun, begins_not}

-- the state behind `<`, its match and all between
unbracketed : (s : State) (k : ℕ) → give (with_texts s (s.left ++ take k (drop 1 s.right)) (drop (suc k) (drop 1 s.right))) ≡ unbracketing s (Some k)
unbracketed s k =
    ap (λ r. give (with_texts s (s.left ++ take k (drop 1 s.right)) r))
    (ap (λ n. drop n (drop 1 s.right)) (sym (add-one k)) ∙ sym (drop-drop 1 k (drop 1 s.right)))

-- A RULE FITS

module _ (code : Code) (s : State) where
  -- the rule u goes on from s
  abbrev Fits : Rule → Type 0
  Fits u = GoesOn code s (by_rule code u s)

  -- does the right text begin with these bytes?
  abbrev front : Text → Bool
  front p = begins p s.right

  abbrev line : Text
  line = code.end_of_line ∷ []

  abbrev named : List ℕ → Text
  named chars = spelled code chars

  it_is : (p : Text) → front p ≡ true → s.right ≡ p ++ drop (length p) s.right
  it_is p t = sym (begun p s.right t)

  fits_bracket : (o : Option ℕ) → match_of code false 0 (drop 1 s.right) ≡ o → s.right ≡ code.named 60 ∷ drop 1 s.right →
      GoesOn code s (unbracketing s o)
  fits_bracket None e f = finds_no_match _ f e refl
  fits_bracket (Some k) e f = unbrackets _ k f e (sym (unbracketed s k))

  -- no test passes
  fits_other : (r : Text) → s.right ≡ r → not_empty r ≡ true →
      front line ≡ false → front (named (codes "@")) ≡ false → front (named (codes "##<")) ≡ false →
      front (named (codes "#<")) ≡ false → front (named (codes "<")) ≡ false →
      (inside s && front (named (codes ";"))) ≡ false → (inside s && front (named (codes ">"))) ≡ false →
      Fits Other
  fits_other [] e h t1 t2 t3 t4 t5 t6 t7 = absurd (never (cc))
  fits_other (b ∷ r) e h t1 t2 t3 t4 t5 t6 t7 =
      passes b r e
      (record {
        no_line = λ f. not_begun line _ r t1 (heads f);
        no_escape = λ f. not_begun (named (codes "@")) _ r t2 (heads f);
        no_bracket = λ f. not_begun (named (codes "<")) _ r t5 (heads f);
        no_active = λ t f. not_begun (named (codes "#<")) _ t t4 (e ∙ f);
        no_passive = λ t f. not_begun (named (codes "##<")) _ t t3 (e ∙ f);
        no_separator = λ within f. not_begun (named (codes ";")) _ r (alone within t6) (heads f);
        no_close = λ within f. not_begun (named (codes ">")) _ r (alone within t7) (heads f);
      })
      (ap (λ t. give (with_texts s (s.left ++ take 1 t) (drop 1 t))) e)
    where
      heads : {c : ℕ} → b ≡ c → s.right ≡ c ∷ r
      heads f = e ∙ ap (λ x. x ∷ r) f

      alone : {x y : Bool} → x ≡ true → (x && y) ≡ false → y ≡ false
      alone {x} {y} f g = false_from y (λ k. both_ways _ g (and_from x y f k))

  fits : not_empty s.right ≡ true → Fits (rule code (inside s) s.right)
  fits h =
      cond_both _ _ _ Fits (λ t. drops_line _ (it_is line t) refl) (λ t1.
      cond_both _ _ _ Fits (λ t. escapes _ (it_is (named (codes "@")) t) refl) (λ t2.
      cond_both _ _ _ Fits (λ t. opens_passive _ (it_is (named (codes "##<")) t) refl) (λ t3.
      cond_both _ _ _ Fits (λ t. opens_active _ (it_is (named (codes "#<")) t) refl) (λ t4.
      cond_both _ _ _ Fits (λ t. fits_bracket _ refl (it_is (named (codes "<")) t)) (λ t5.
      cond_both _ _ _ Fits (λ t. separates _ (and_parts _ _ t).0 (it_is (named (codes ";")) (and_parts _ _ t).1) refl) (λ t6.
      cond_both _ _ _ Fits (λ t. calls _ (and_parts _ _ t).0 (it_is (named (codes ">")) (and_parts _ _ t).1) refl) (λ t7.
      fits_other s.right refl h t1 t2 t3 t4 t5 t6 t7)))))))

-- NO OTHER RULE FITS

module _ (code : Code) (laws : CodeLaws code) where
  -- named characters differ from each other, and from the end of line
  pub apart : (c d : ℕ) → named_char c ≡ true → named_char d ≡ true → eqb c d ≡ false → eqb (code.named c) (code.named d) ≡ false
  apart c d hc hd h = ne_eqb _ _ (λ e. eqb-false c d h (laws.named_apart c d hc hd e))

  no_line : (c : ℕ) → named_char c ≡ true → eqb code.end_of_line (code.named c) ≡ false
  no_line c h = ne_eqb _ _ (λ e. both_ways _ laws.end_no_character (ap code.character e ∙ laws.named_character c h))

  -- the rule that fits a front
  by_line : (w : Bool) (r : Text) → rule code w (code.end_of_line ∷ r) ≡ EndOfLine
  by_line w r = rw (itself code.end_of_line)

  by_escape : (w : Bool) (r : Text) → rule code w (code.named 64 ∷ r) ≡ Escape
  by_escape w r = rw (no_line 64 refl, itself (code.named 64))

  by_passive : (w : Bool) (r : Text) → rule code w (code.named 35 ∷ code.named 35 ∷ code.named 60 ∷ r) ≡ OpenPassive
  by_passive w r = rw (no_line 35 refl, apart 64 35 refl refl refl, itself (code.named 35), itself (code.named 60))

  by_active : (w : Bool) (r : Text) → rule code w (code.named 35 ∷ code.named 60 ∷ r) ≡ OpenActive
  by_active w r = rw (no_line 35 refl, apart 64 35 refl refl refl, apart 35 60 refl refl refl, itself (code.named 35), itself (code.named 60))

  by_bracket : (w : Bool) (r : Text) → rule code w (code.named 60 ∷ r) ≡ Bracket
  by_bracket w r = rw (no_line 60 refl, apart 64 60 refl refl refl, apart 35 60 refl refl refl, itself (code.named 60))

  by_separator : (w : Bool) (r : Text) → w ≡ true → rule code w (code.named 59 ∷ r) ≡ Separator
  by_separator w r h =
      rw (no_line 59 refl, apart 64 59 refl refl refl, apart 35 59 refl refl refl, apart 60 59 refl refl refl, h, itself (code.named 59))

  by_close : (w : Bool) (r : Text) → w ≡ true → rule code w (code.named 62 ∷ r) ≡ Close
  by_close w r h =
      rw (no_line 62 refl, apart 64 62 refl refl refl, apart 35 62 refl refl refl, apart 60 62 refl refl refl, apart 59 62 refl refl refl, h)
      (rw (itself (code.named 62)))

  by_other : (s : State) (b : ℕ) (r : Text) → PlainFront code s b r → rule code (inside s) (b ∷ r) ≡ Other
  by_other s b r f =
      cond-false _ _ _ (no code.end_of_line f.no_line)
      ∙ cond-false _ _ _ (no (code.named 64) f.no_escape)
      ∙ cond-false _ _ _ (begins_not (spelled code (codes "##<")) (b ∷ r) f.no_passive)
      ∙ cond-false _ _ _ (begins_not (spelled code (codes "#<")) (b ∷ r) f.no_active)
      ∙ cond-false _ _ _ (no (code.named 60) f.no_bracket)
      ∙ cond-false _ _ _ (not_inside (code.named 59) f.no_separator)
      ∙ cond-false _ _ _ (not_inside (code.named 62) f.no_close)
    where
      first : (c : ℕ) → begins (c ∷ []) (b ∷ r) ≡ true → b ≡ c
      first c t = sym (eqb-true c b (and_parts (eqb c b) true t).0)

      no : (c : ℕ) → (b ≡ c → ⊥) → begins (c ∷ []) (b ∷ r) ≡ false
      no c h = false_from _ (λ t. h (first c t))

      not_inside : (c : ℕ) → (inside s ≡ true → b ≡ c → ⊥) → (inside s && begins (c ∷ []) (b ∷ r)) ≡ false
      not_inside c h = false_from _ (λ t. let both = and_parts (inside s) (begins (c ∷ []) (b ∷ r)) t in h both.0 (first c both.1))

  -- the right text is t, and the rule u goes on as F says
  goes : (s : State) (u : Rule) (F : Text → Run World State) (t : Text) → s.right ≡ t → rule code (inside s) t ≡ u →
      F s.right ≡ by_rule code u s → F t ≡ step code s
  unfolding step
  goes s u F t e h k =
      ap F (sym e) ∙ k ∙ ap (λ v. by_rule code v s) (sym h) ∙ ap (λ x. by_rule code (rule code (inside s) x) s) (sym e)

  no_other : (s : State) (x : Run World State) → GoesOn code s x → x ≡ step code s
  no_other s x (drops_line r e f) = f ∙ goes s EndOfLine (λ t. give (with_texts s s.left (drop 1 t))) _ e (by_line _ r) refl
  no_other s x (escapes r e f) =
      f ∙ goes s Escape (λ t. give (with_texts s (s.left ++ take 1 (drop 1 t)) (drop 1 (drop 1 t)))) _ e (by_escape _ r) refl
  no_other s x (opens_passive r e f) = f ∙ goes s OpenPassive (λ t. opened s PassiveCall (drop 3 t)) _ e (by_passive _ r) refl
  no_other s x (opens_active r e f) = f ∙ goes s OpenActive (λ t. opened s ActiveCall (drop 2 t)) _ e (by_active _ r) refl
  no_other s x (unbrackets r k e m f) =
      f
      ∙ goes s Bracket (λ t. give (with_texts s (s.left ++ take k (drop 1 t)) (drop (suc k) (drop 1 t)))) _ e (by_bracket _ r)
      (unbracketed s k ∙ ap (unbracketing s) (sym (ap (λ t. match_of code false 0 (drop 1 t)) e ∙ m)))
  no_other s x (finds_no_match r e m f) =
      f
      ∙ goes s Bracket (λ t. fault unmatched s.world) _ e (by_bracket _ r)
      (ap (unbracketing s) (sym (ap (λ t. match_of code false 0 (drop 1 t)) e ∙ m)))
  no_other s x (separates r w e f) = f ∙ goes s Separator (λ t. opened s Parameter (drop 1 t)) _ e (by_separator _ r w) refl
  no_other s x (calls r w e f) = f ∙ goes s Close (λ t. make_call code (with_texts s s.left (drop 1 t))) _ e (by_close _ r w) refl
  no_other s x (passes b r e p f) =
      f ∙ goes s Other (λ t. give (with_texts s (s.left ++ take 1 t) (drop 1 t))) _ e (by_other s b r p) refl

pub by_one_rule : EveryStepGoesByOneRule
unfolding step
by_one_rule code laws s h = record { by_a_rule = fits code s h; by_no_other = no_other code laws s }
