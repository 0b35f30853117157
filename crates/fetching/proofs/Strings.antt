-- Strings that are defined one after the other, as the chain asks. Assumes nothing.
use Rattle.std.proofs.Common.{◌≡◌, ℕ, ◌≤◌, arith, Bool, true, false, cond, ◌&&◌, List, [], ◌∷◌, length, Ok, Err, Result, refl, sym, ap, ◌∙◌, subst}
use Rattle.refusal.specs.declared.Refusal.{Refusal}
use Rattle.library.specs.Meaning.{NamedString}
use Rattle.library.specs.Locked.{no_space}
use Rattle.machine.specs.declared.amounts.Amounts.{Amounts}
use Rattle.machine.specs.Texts.{Code, proper_name, proper_body}
use Rattle.machine.specs.Faults.{names?, store?, foreign_text}
use Rattle.machine.specs.Chain.{Run, give, fault, ask, ◌>>=◌, walk}
use Rattle.machine.specs.ChainLaws.{and_then}
use Rattle.machine.specs.Dictionary.{string, new_string, define, names_in, bytes_in}
use Rattle.machine.specs.Dictionary as machine
use Rattle.machine.specs.World.{World, with_dictionary}
use Rattle.machine.specs.Libraries.{fetching}
use Rattle.machine.proofs.Walking.{walk_of_bind}
use Rattle.meter.specs.declared.meter.Meter.{Meter}
use Rattle.meter.specs.declared.question.Question.TheVariants.{Names, Store}
use Rattle.meter.specs.Metered.{tally, Passed, Short}
use Rattle.dictionary.specs.declared.amounts.Needs.{Needs}
use Rattle.dictionary.specs.declared.dictionary.Dictionary.{Dictionary}
use Rattle.dictionary.specs.Meant.{dictionary_in}
use Rattle.dictionary.specs.Editing.{Kept, Room}
use Rattle.dictionary.specs.Needing.{Takes}
use Rattle.scan.specs.Meeting.{Meets}
use Rattle.fetching.specs.Sufficing.{Suffices}
use Rattle.fetching.proofs.Capped.{passes_uncapped, falls_short_uncapped}
use Rattle.scan.proofs.Meetings.{on_passed, on_short, on_err}

-- ONE STRING

-- are its name and its body proper?
abbrev proper : Code → NamedString → Bool
proper code s = proper_name code s.name && proper_body code s.body

-- the dictionary with it
abbrev defined : Code → NamedString → machine.Dictionary → machine.Dictionary
defined code s before = define code s.name (string (new_string s.body)) before

-- what it needs was told; the names are asked, and then the bytes
module _ (code : Code) (s : NamedString) (before : machine.Dictionary) (needs : Needs) (takes : Takes needs (defined code s before)) (m m' m'' : Meter) where
  abbrev d : machine.Dictionary
  d = defined code s before

  module _ (small : m.bounds.store ≤ 32768) (names : Passed Names needs.names m m') (bytes : Passed Store needs.bytes m' m'') where
    all_bytes : Passed Store (bytes_in d) m' m''
    all_bytes = passes_uncapped Store needs.bytes (bytes_in d) takes.bytes m' m'' (rw names.bounds_stay (omega arith)) bytes

    -- there is room for it
    pub room_for_string : (e : Dictionary) (store : List ℕ) → Suffices e store m.bounds → Room e store d
    room_for_string e store h = record {
      names = omega (arith, names.fits, takes.names, h.names);
      bytes = omega (arith, all_bytes.fits, ap (λ (b : Amounts). b.store) names.bounds_stay, h.bytes);
    }

  module _ (w : World) (is_proper : proper code s ≡ true) where
    abbrev v : World
    v = with_dictionary before w

    abbrev gives : Run World World
    gives = give (with_dictionary d w)

    pub too_many_names : (after : World) (e : Refusal) → Short Names needs.names m m' e → Meets m m' (Err e) after v (fetching code (s ∷ []) v)
    too_many_names after e h = rw is_proper (on_short Names (names_in d) m m' m' (Err e) after v v (ask store? (bytes_in d) v gives) e (rw takes.names at h))

    pub too_many_bytes : (after : World) (e : Refusal) → Passed Names needs.names m m' → Short Store needs.bytes m' m'' e → Meets m m'' (Err e) after v (fetching code (s ∷ []) v)
    too_many_bytes after e p h =
        rw is_proper
        (on_passed Names (names_in d) m m' m'' (Err e) after v v (ask store? (bytes_in d) v gives) (rw takes.names at p)
        (on_short Store (bytes_in d) m' m'' m'' (Err e) after v v gives e (falls_short_uncapped Store needs.bytes (bytes_in d) takes.bytes m' m'' e h)))

    pub string_fits : m.bounds.store ≤ 32768 → (left : World) → Passed Names needs.names m m' → Passed Store needs.bytes m' m'' → Meets m m'' (Ok tt) (with_dictionary d w) left (fetching code (s ∷ []) v)
    string_fits small left p q =
        rw is_proper
        (on_passed Names (names_in d) m m' m'' (Ok tt) (with_dictionary d w) left v (ask store? (bytes_in d) v gives) (rw takes.names at p)
        (on_passed Store (bytes_in d) m' m'' m'' (Ok tt) (with_dictionary d w) left v gives (all_bytes small p q)
        (record { bounds_stay = refl; as_defined = refl })))

-- ONE AFTER THE OTHER

-- what is met behind is what is met before
pub record Leads (m m' : Meter) (run run' : Run World World) : Type 0 where
  pub bounds_stay : m'.bounds ≡ m.bounds
  pub same : walk m.bounds (tally m) run ≡ walk m'.bounds (tally m') run'

-- the first string, and the others behind it
first_and_others : (code : Code) (s : NamedString) (ss : List NamedString) (w : World) → fetching code (s ∷ ss) w ≡ fetching code (s ∷ []) w >>= fetching code ss
first_and_others code s ss w = go (proper code s)
  where
    go : (b : Bool) → cond b (ask names? (names_in (defined code s w.dictionary)) w (ask store? (bytes_in (defined code s w.dictionary)) w (fetching code ss (with_dictionary (defined code s w.dictionary) w)))) (fault foreign_text w)
        ≡ cond b (ask names? (names_in (defined code s w.dictionary)) w (ask store? (bytes_in (defined code s w.dictionary)) w (give (with_dictionary (defined code s w.dictionary) w)))) (fault foreign_text w) >>= fetching code ss
    go true = refl
    go false = refl

module _ (code : Code) (s : NamedString) (ss : List NamedString) (w after left : World) (m m' : Meter) where
  first_leads : Meets m m' (Ok tt) after left (fetching code (s ∷ []) w) → Leads m m' (fetching code (s ∷ ss) w) (fetching code ss after)
  first_leads h = record {
    bounds_stay = h.bounds_stay;
    same =
        ap (walk m.bounds (tally m)) (first_and_others code s ss w) ∙ walk_of_bind m.bounds (fetching code ss) (tally m) (fetching code (s ∷ []) w)
        ∙ ap (λ x. and_then x (λ c t. walk m.bounds t (fetching code ss c))) (sym h.as_defined)
        ∙ ap (λ b. walk b (tally m') (fetching code ss after)) (sym h.bounds_stay);
  }

  first_stops : (e : Refusal) → Meets m m' (Err e) after left (fetching code (s ∷ []) w) → Meets m m' (Err e) after left (fetching code (s ∷ ss) w)
  first_stops e h = subst (Meets m m' (Err e) after left) (sym (first_and_others code s ss w)) (on_err m m' m' (Err e) after after left left (fetching code (s ∷ []) w) (fetching code ss) e h)

-- Strings were defined, and others are left: the questions go on from there, and the memory is as it was.
pub record Under (code : Code) (d e : Dictionary) (store after : List ℕ) (strings left : List NamedString) (m m' : Meter) : Type 0 where
  pub leads : (w : World) → Leads m m' (fetching code strings (with_dictionary (dictionary_in d store) w)) (fetching code left (with_dictionary (dictionary_in e after) w))
  pub kept : Kept d e after
  pub suffices : Suffices e after m'.bounds

-- some world
abbrev empty_world : machine.Dictionary → World
empty_world d = record { dictionary = d; library = record { programs = []; space = no_space; locked = false }; printed = []; called = [] }

module _ (code : Code) (d e : Dictionary) (store after : List ℕ) (strings left : List NamedString) (m m' : Meter) (u : Under code d e store after strings left m m') where
  -- what is left is met from the first string on
  under_leads : (m'' : Meter) (r : Result (Unit {0}) Refusal) (end stands w : World) → Meets m' m'' r end stands (fetching code left (with_dictionary (dictionary_in e after) w)) →
      Meets m m'' r end stands (fetching code strings (with_dictionary (dictionary_in d store) w))
  under_leads m'' r end stands w h = record { bounds_stay = h.bounds_stay ∙ (u.leads w).bounds_stay; as_defined = h.as_defined ∙ sym (u.leads w).same }

  -- none is left
  pub under_ends : (w : World) → left ≡ [] → Meets m m' (Ok tt) (with_dictionary (dictionary_in e after) w) (with_dictionary (dictionary_in e after) w) (fetching code strings (with_dictionary (dictionary_in d store) w))
  under_ends w none = under_leads m' (Ok tt) _ _ w (rw none (record { bounds_stay = refl; as_defined = refl }))

  module _ (s : NamedString) (rest : List NamedString) (next : left ≡ s ∷ rest) (m'' : Meter) where
    -- the next one is refused
    pub under_stops : (refusal : Refusal) (end stands w : World) → Meets m' m'' (Err refusal) end stands (fetching code (s ∷ []) (with_dictionary (dictionary_in e after) w)) →
        Meets m m'' (Err refusal) end stands (fetching code strings (with_dictionary (dictionary_in d store) w))
    under_stops refusal end stands w h =
        under_leads m'' (Err refusal) end stands w (rw next (first_stops code s rest (with_dictionary (dictionary_in e after) w) end stands m' m'' refusal h))

    -- it is defined
    pub under_next : (f : Dictionary) (later : List ℕ) → Kept e f later → length later ≡ length after
        → ((w : World) → Meets m' m'' (Ok tt) (with_dictionary (dictionary_in f later) w) (with_dictionary (dictionary_in f later) w) (fetching code (s ∷ []) (with_dictionary (dictionary_in e after) w)))
        → Under code d f store later strings rest m m''
    under_next f later kept size h =
        let same : m''.bounds ≡ m'.bounds = (h (empty_world (dictionary_in e after))).bounds_stay in
        record {
          leads = λ w.
              let one = first_leads code s rest (with_dictionary (dictionary_in e after) w) (with_dictionary (dictionary_in f later) w) (with_dictionary (dictionary_in f later) w) m' m'' (h w) in
              record { bounds_stay = one.bounds_stay ∙ (u.leads w).bounds_stay; same = (u.leads w).same ∙ ap (λ ss. walk m'.bounds (tally m') (fetching code ss (with_dictionary (dictionary_in e after) w))) next ∙ one.same };
          kept = record { most_rows = kept.most_rows ∙ u.kept.most_rows; whole = kept.whole };
          suffices = rw same (record { whole = kept.whole; names = omega (arith, u.suffices.names, kept.most_rows); bytes = omega (arith, u.suffices.bytes); small = u.suffices.small });
        }
