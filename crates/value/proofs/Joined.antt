-- Names with commas between, one by one.
use Rattle.std.proofs.Common.{◌≡◌, ℕ, zero, suc, ◌+◌, ◌<◌, ◌≤◌, ◌==◌, false, cond, None, List, [], ◌∷◌, ◌++◌, length, map, drop, get_or, sym, ◌∙◌, ap, arith, refl, rules, tests}
use Rattle.std.specs.List.{flat_map, slice_get}
use Rattle.std.proofs.lemmas.List.{append-nil, drop_all}
use Rattle.std.proofs.lemmas.Option.{none-some}
use Rattle.library.specs.Meaning.{NamedString}
use Rattle.machine.specs.Texts.{Text}
use Rattle.machine.specs.Libraries.{with_commas}
use Rattle.value.specs.Texts.{joined_name}
use Rattle.value.proofs.Pieces.{flat_map_cut}

pub no_name : (strings : List NamedString) (k : ℕ) → slice_get strings k ≡ None → [] ≡ get_or (map (λ (s : NamedString). s.name) strings) k []
no_name [] k e = refl
no_name (s ∷ ss) zero e = absurd (none-some s (sym e))
no_name (s ∷ ss) (suc k) e = no_name ss k e

-- each with a comma before it
abbrev behind : ℕ → List Text → Text
behind comma names = flat_map (λ n. comma ∷ n) names

-- what is left from name i on
abbrev pub names_left : ℕ → List Text → ℕ → Text
names_left comma names i = cond (i == 0) (with_commas comma names) (behind comma (drop i names))

not_first : (i : ℕ) → 0 < i → (i == 0) ≡ false
not_first i h = search (rules, tests)

later_left : (comma : ℕ) (names : List Text) (i : ℕ) → 0 < i → names_left comma names i ≡ behind comma (drop i names)
later_left comma names i h = ap (λ b. cond b (with_commas comma names) (behind comma (drop i names))) (not_first i h)

later_name : (comma : ℕ) (i : ℕ) (name : Text) → 0 < i → joined_name comma i name ≡ comma ∷ name
later_name comma i name h = ap (λ b. cond b name (comma ∷ name)) (not_first i h)

first_cut : (comma : ℕ) (names : List Text) → 0 < length names → with_commas comma names ≡ get_or names 0 [] ++ behind comma (drop 1 names)
first_cut comma [] lt = absurd (omega arith)
first_cut comma (n ∷ []) lt = sym (append-nil n)
first_cut comma (n ∷ m ∷ ms) lt = ap (λ t. n ++ comma ∷ t) (first_cut comma (m ∷ ms) (omega arith))

pub names_cut : (comma : ℕ) (names : List Text) (i : ℕ) → i < length names → names_left comma names i ≡ joined_name comma i (get_or names i []) ++ names_left comma names (i + 1)
names_cut comma names zero lt = first_cut comma names lt
names_cut comma names (suc i) lt =
    later_left comma names (suc i) (omega arith)
    ∙ flat_map_cut (λ n. comma ∷ n) names (suc i) [] lt
    ∙ ap (λ t. t ++ behind comma (drop (suc i + 1) names)) (sym (later_name comma (suc i) (get_or names (suc i) []) (omega arith)))
    ∙ ap (λ t. joined_name comma (suc i) (get_or names (suc i) []) ++ t) (sym (later_left comma names (suc i + 1) (omega arith)))

pub no_names_left : (comma : ℕ) (names : List Text) (i : ℕ) → length names ≤ i → names_left comma names i ≡ []
no_names_left comma [] zero le = refl
no_names_left comma (n ∷ ns) zero le = absurd (omega arith)
no_names_left comma names (suc i) le = later_left comma names (suc i) (omega arith) ∙ ap (behind comma) (drop_all (suc i) names le)
