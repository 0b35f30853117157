-- The scan of plain text. Assumes nothing.
use Rattle.std.proofs.Common.{◌≡◌, ℕ, zero, suc, ◌+◌, ◌≤◌, max, Bool, true, false, cond, not, eqb, leb, [], ◌∷◌, ◌++◌, length, Some, None, sym, refl, ap, ◌∙◌, ap₂, add-zero, arith}
use Rattle.std.proofs.lemmas.List.{append-nil, append_assoc}
use Rattle.std.proofs.lemmas.Bool.{both_ways, and_parts, and_from, or_left, cond-true, not-true, eqb-false, le-leb, leb-true}
use Rattle.refusal.specs.declared.Refusal.TheVariants.{AllowanceOutOfRange, AreaTooShort}
use Rattle.code.specs.Meaning.{CodeLaws}
use Rattle.machine.specs.declared.amounts.Amounts.{Amounts}
use Rattle.machine.specs.declared.amounts.Limits.{Limits}
use Rattle.machine.specs.Texts.{Text, Code}
use Rattle.machine.specs.Chain.{give, bounds, Tally, gave, walk}
use Rattle.machine.specs.World.{World}
use Rattle.machine.specs.Scan.{State, step, scanning, expansion}
use Rattle.machine.specs.Rules.{passes}
use Rattle.machine.specs.Calls.{Areas, Done, expand, areas_suffice, world_of, from_zero, turned_away, good_source, carried_out, unless_away, came_to}
use Rattle.machine.specs.Laws.{plain, PlainTextIsItself}
use Rattle.machine.proofs.Common.{never}
use Rattle.machine.proofs.Ruling.{by_one_rule}
use Rattle.std.specs.List.{list_all}

-- what a plain byte is
record IsPlain (code : Code) (b : ℕ) : Type 0 where
  character : code.character b ≡ true
  no_call : b ≡ code.named 35 → ⊥
  no_bracket : b ≡ code.named 60 → ⊥
  no_escape : b ≡ code.named 64 → ⊥

is_plain : (code : Code) (b : ℕ) → plain code b ≡ true → IsPlain code b
is_plain code b e =
    let escape = and_parts _ (not (eqb b (code.named 64))) e in
    let bracket = and_parts _ (not (eqb b (code.named 60))) escape.0 in
    let call = and_parts (code.character b) (not (eqb b (code.named 35))) bracket.0 in
    record {
      character = call.0;
      no_call = eqb-false _ _ (not-true _ call.1);
      no_bracket = eqb-false _ _ (not-true _ bracket.1);
      no_escape = eqb-false _ _ (not-true _ escape.1);
    }

-- outside of any call
abbrev outside : Text → Text → World → State
outside l r w = record { left = l; right = r; roll = []; world = w }

passed_by : (code : Code) → CodeLaws code → (l r : Text) (w : World) (b : ℕ) → plain code b ≡ true →
    step code (outside l (b ∷ r) w) ≡ give (outside (l ++ b ∷ []) r w)
passed_by code laws l r w b e =
    let p = is_plain code b e in
    sym ((by_one_rule code laws (outside l (b ∷ r) w) refl).by_no_other _ (passes b r refl (record {
      no_line = λ f. both_ways _ laws.end_no_character (ap code.character (sym f) ∙ p.character);
      no_escape = p.no_escape;
      no_bracket = p.no_bracket;
      no_active = λ t f. p.no_call (cc);
      no_passive = λ t f. p.no_call (cc);
      no_separator = λ f. absurd (never (cc));
      no_close = λ f. absurd (never (cc));
    }) refl))

-- so many bytes of source and so many steps counted
abbrev counted : ℕ → ℕ → ℕ → Tally
counted source n created =
    record { needs = record { names = 0; roll = 0; store = 0; scan = source; print = 0; steps = n }; created = created; wanted = false }

module _ (code : Code) (laws : CodeLaws code) (b : Amounts) (w : World) (source created : ℕ) where
  -- the scan of plain text t behind n steps
  scanned_plain : (t l : Text) (more n : ℕ) → list_all (plain code) t ≡ true → length t ≤ more → n + length t ≤ b.steps →
      walk b (counted source n created) (scanning code more n (outside l t w))
      ≡ gave (outside (l ++ t) [] w) (counted source (n + length t) created)
  unfolding scanning
  scanned_plain [] l zero n e h k = rw (append-nil l, add-zero n)
  scanned_plain [] l (suc more) n e h k = rw (append-nil l, add-zero n)
  scanned_plain (x ∷ t) l zero n e h k = absurd (omega arith)
  scanned_plain (x ∷ t) l (suc more) n e h k =
      let both = and_parts (plain code x) (list_all (plain code) t) e in
      let room : leb (n + 1) b.steps ≡ true = le-leb (n + 1) b.steps (omega arith) in
      let higher : max n (n + 1) ≡ n + 1 = omega arith in
      let longer : n + 1 + length t ≡ n + length (x ∷ t) = omega arith in
      let fits : length t ≤ more = omega arith in
      let lasts : n + 1 + length t ≤ b.steps = omega arith in
      let rest = scanned_plain t (l ++ x ∷ []) more (n + 1) both.1 fits lasts in
      rw (passed_by code laws l t w x both.0, room, higher)
      (rest ∙ ap₂ (λ a m. gave (outside a [] w) (counted source m created)) (append_assoc l (x ∷ []) t) longer)

plain_good : (code : Code) (t : Text) → list_all (plain code) t ≡ true → good_source code t ≡ true
plain_good code [] e = refl
plain_good code (b ∷ t) e =
    let both = and_parts (plain code b) (list_all (plain code) t) e in
    and_from _ _ (or_left _ _ (is_plain code b both.0).character) (plain_good code t both.1)

-- no allowance goes past 1,000,000
in_range : (p : Limits) (a : ℕ) (source : Text) (areas : Areas) → turned_away p (expand a source areas) ≡ None → a ≤ 1000000
in_range p a source areas e = leb-true a 1000000 (go (areas_suffice p (expand a source areas)) (leb a 1000000) e)
  where
    go : (x y : Bool) → cond x (cond y None (Some AllowanceOutOfRange)) (Some AreaTooShort) ≡ None → y ≡ true
    go true true e = refl
    go true false e = absurd (never (cc))
    go false y e = absurd (never (cc))

expanded : (code : Code) → CodeLaws code → (p : Limits) (a : ℕ) (source : Text) (w : World) (created : ℕ) →
    list_all (plain code) source ≡ true → length source ≤ p.scan → length source ≤ a → a ≤ 1000000 →
    walk (bounds p a) (from_zero created) (expansion code source w)
    ≡ gave (outside source [] w) (counted (length source) (length source) created)
unfolding expansion
expanded code laws p a source w created e fits lasts h =
    let room : leb (length source) p.scan ≡ true = le-leb (length source) p.scan fits in
    let higher : max 0 (length source) ≡ length source = omega arith in
    let same : 0 + length source ≡ length source = omega arith in
    let bound : length source ≤ 1000000 = omega arith in
    let steps : 0 + length source ≤ a = omega arith in
    rw (room, higher)
    (scanned_plain code laws (bounds p a) w (length source) created source [] 1000000 0 e bound steps
    ∙ ap (λ n. gave (outside source [] w) (counted (length source) n created)) same)

pub plain_text : PlainTextIsItself
plain_text code laws p m a source areas e fits lasts h =
    let call = expand a source areas in
    ap (λ o. (unless_away o m (carried_out code p m call)).after.replied) h
    ∙ ap (λ (d : Done). d.after.replied) (cond-true _ _ _ (plain_good code source e))
    ∙ ap (λ c. (came_to c).after.replied) (expanded code laws p a source (world_of m) m.created e fits lasts (in_range p a source areas h))
