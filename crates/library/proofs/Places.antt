-- Where the program of a name stands.
use Rattle.std.proofs.Common.{◌≡◌, ℕ, zero, suc, ◌+◌, ◌<◌, MatchOption, Bool, true, false, cond, List, [], ◌∷◌, length, Some, None, Option, refl, sym, ap, ◌∙◌, add-one, arith}
use Rattle.std.specs.Option.{option_map}
use Rattle.std.specs.Str.{bytes_eq}
use Rattle.std.specs.List.{AllWithin, HoldsAt}
use Rattle.std.proofs.lemmas.Option.{get_or_from_slice_get, slice_get-get_or}
use Rattle.std.proofs.lemmas.Slice.Eq.{bytes_eq-Decides}
use Rattle.library.specs.Meaning.{Program, Lawful, name_at, program_at, place}

-- no program before k has the name n
abbrev pub UnnamedBefore : List ℕ → List Program → ℕ → Type 0
UnnamedBefore n ps k = (j : ℕ) → j < k → name_at ps j ≡ Some n → ⊥

here : (n : List ℕ) (p : Program) (ps : List Program) → p.name ≡ n → place n (p ∷ ps) ≡ Some 0
here n p ps e = simp ((bytes_eq-Decides p.name n).1 e)

later : (n : List ℕ) (p : Program) (ps : List Program) → (p.name ≡ n → ⊥) → place n (p ∷ ps) ≡ option_map (λ k. k + 1) (place n ps)
later n p ps apart = go (bytes_eq p.name n) (bytes_eq-Decides p.name n).0
  where
    go : (t : Bool) → (t ≡ true → p.name ≡ n) → cond t (Some 0) (option_map (λ k. k + 1) (place n ps)) ≡ option_map (λ k. k + 1) (place n ps)
    go true same = absurd (apart (same refl))
    go false same = refl

-- the first program of the name, and none
pub place_first : (n : List ℕ) (ps : List Program) (k : ℕ) → name_at ps k ≡ Some n → UnnamedBefore n ps k → place n ps ≡ Some k
place_first n [] k named before = cc
place_first n (p ∷ ps) zero named before = here n p ps (cc)
place_first n (p ∷ ps) (suc k) named before =
    later n p ps (λ e. before 0 (omega arith) (ap (λ m. Some m) e))
    ∙ ap (option_map (λ j. j + 1)) (place_first n ps k named (λ j h. before (suc j) (omega arith)))
    ∙ ap (λ (j : ℕ). Some j) (add-one k)

pub place_none : (n : List ℕ) (ps : List Program) → UnnamedBefore n ps (length ps) → place n ps ≡ None
place_none n [] before = refl
place_none n (p ∷ ps) before =
    later n p ps (λ e. before 0 (omega arith) (ap (λ m. Some m) e))
    ∙ ap (option_map (λ j. j + 1)) (place_none n ps (λ j h. before (suc j) (omega arith)))

-- where names are distinct, a program of the name is the first
pub place_only : (n : List ℕ) (ps : List Program) (r : Option ℕ) → r ≡ place n ps → Lawful ps → (k : ℕ) → name_at ps k ≡ Some n → r ≡ Some k
place_only n ps r is lawful k named =
    is ∙ place_first n ps k named (λ j h other. omega (arith, lawful.distinct j k (record { name = n; at_j = other; at_k = named })))

no_program : Program
no_program = record { name = []; strings = [] }

-- programs of another name up to k: none before k has the name
unnamed : (n : List ℕ) (ps : List Program) (k : ℕ) → AllWithin (λ (p : Program). p.name ≡ n → ⊥) ps 0 k → UnnamedBefore n ps k
unnamed n ps k others j h named = go (program_at ps j) refl named
  where
    go : (o : Option Program) → program_at ps j ≡ o → option_map (λ (q : Program). q.name) o ≡ Some n → ⊥
    go None is e = cc
    go (Some p) is e =
        let here = get_or_from_slice_get ps j p no_program is in
        let same : p.name ≡ n = cc in
        others j no_program (omega arith) h (ap (λ (q : Program). q.name) here ∙ same)

-- what a search of the programs in turn tells of its result r: the place of the name, that there it is, and that it is nowhere else
pub searched : (n : List ℕ) (ps : List Program) (r : Option ℕ) → MatchOption r (AllWithin (λ (p : Program). p.name ≡ n → ⊥) ps 0 (length ps)) (λ i. (i < length ps) × HoldsAt (λ (p : Program). p.name ≡ n) ps i × AllWithin (λ (p : Program). p.name ≡ n → ⊥) ps 0 i) → Lawful ps → (r ≡ place n ps) × ((k : ℕ) → r ≡ Some k → name_at ps k ≡ Some n) × ((k : ℕ) → name_at ps k ≡ Some n → r ≡ Some k)
searched n ps None none lawful =
    let is = sym (place_none n ps (unnamed n ps (length ps) none)) in
    (is, λ k e. cc, place_only n ps None is lawful)
searched n ps (Some i) at lawful =
    let named = ap (option_map (λ (q : Program). q.name)) (slice_get-get_or ps i no_program at.0) ∙ ap (λ (m : List ℕ). Some m) (at.1 no_program) in
    let is = sym (place_first n ps i named (unnamed n ps i at.2)) in
    (is, λ k e. let same : i ≡ k = cc in rw same at named, place_only n ps (Some i) is lawful)
