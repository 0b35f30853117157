-- Lines and the programs that they make: each gives the other back, and their names are the same.
use Rattle.std.proofs.Common.{◌≡◌, ℕ, zero, suc, Bool, true, false, not, ◌&&◌, ◌||◌, leb, List, [], ◌∷◌, ◌++◌, map, length, Some, sym, refl, ap, ◌∙◌, arith}
use Rattle.std.specs.List.{list_all}
use Rattle.std.specs.Str.{bytes_eq}
use Rattle.std.proofs.lemmas.Slice.Eq.{bytes_eq-Decides}
use Rattle.std.proofs.lemmas.Bool.{both_ways, and_parts, and_from, not-true, not_from_false, leb-true, le-leb, or_from, or_parts, cond-true, cond-false, or_left, or_right, cond_both}
use Rattle.code.specs.Meaning.{within}
use Rattle.library.specs.Meaning.{NamedString, Program, Lawful, name_at}
use Rattle.image.specs.Tests.{not_empty, first_is, among}
use Rattle.image.specs.Lines.{Line, line, listed, joined_by, gathered}
use Rattle.image.specs.Layout.{has_strings}
use Rattle.image.specs.Questions.{adjacent}

pub same_name : (n : List ℕ) → bytes_eq n n ≡ true
same_name n = (bytes_eq-Decides n n).1 refl

-- the name of a program or of a line
abbrev pub name_of : Program → List ℕ
name_of p = p.name

abbrev pub program_of_line : Line → List ℕ
program_of_line l = l.program

-- what a line makes of programs, by whether it joins the first
pub by_joining : (l : Line) (p : Program) (ps : List Program) (P : List Program → Type 0) →
    (bytes_eq p.name l.program ≡ true → p.name ≡ l.program → P (record { name = p.name; strings = l.string ∷ p.strings } ∷ ps)) →
    (bytes_eq p.name l.program ≡ false → P (record { name = l.program; strings = l.string ∷ [] } ∷ p ∷ ps)) →
    P (joined_by l (p ∷ ps))
by_joining l p ps P t f =
    cond_both (bytes_eq p.name l.program) (record { name = p.name; strings = l.string ∷ p.strings } ∷ ps) (record { name = l.program; strings = l.string ∷ [] } ∷ p ∷ ps) P
    (λ e. t e ((bytes_eq-Decides p.name l.program).0 e)) f

-- 1. The lines of gathered lines are those lines.
listed_joined_by : (l : Line) (ps : List Program) → listed (joined_by l ps) ≡ l ∷ listed ps
listed_joined_by l [] = refl
listed_joined_by l (p ∷ ps) =
    by_joining l p ps (λ qs. listed qs ≡ l ∷ listed (p ∷ ps))
    (λ _ e. ap (λ (n : List ℕ). line n l.string ∷ listed (p ∷ ps)) e)
    (λ _. refl)

pub listed_gathered : (ls : List Line) → listed (gathered ls) ≡ ls
listed_gathered [] = refl
listed_gathered (l ∷ ls) = listed_joined_by l (gathered ls) ∙ ap (λ (xs : List Line). l ∷ xs) (listed_gathered ls)

-- 2. A test of names says the same of the lines as of the programs.
idempotent : (a b : Bool) → (a && (a && b)) ≡ (a && b)
idempotent true b = refl
idempotent false b = refl

list_all-joined_by : (f : List ℕ → Bool) (l : Line) (ps : List Program) → list_all f (map name_of (joined_by l ps)) ≡ (f l.program && list_all f (map name_of ps))
list_all-joined_by f l [] = refl
list_all-joined_by f l (p ∷ ps) =
    by_joining l p ps (λ qs. list_all f (map name_of qs) ≡ (f l.program && list_all f (map name_of (p ∷ ps))))
    (λ _ e. sym (idempotent (f p.name) (list_all f (map name_of ps))) ∙ ap (λ (n : List ℕ). f n && (f p.name && list_all f (map name_of ps))) e)
    (λ _. refl)

pub list_all-gathered : (f : List ℕ → Bool) (ls : List Line) → list_all f (map name_of (gathered ls)) ≡ list_all f (map program_of_line ls)
list_all-gathered f [] = refl
list_all-gathered f (l ∷ ls) = list_all-joined_by f l (gathered ls) ∙ ap (λ (b : Bool). f l.program && b) (list_all-gathered f ls)

-- 3. Names of programs are apart exactly where those of the lines are adjacent.
abbrev pub all_apart : List (List ℕ) → Bool
all_apart [] = true
all_apart (n ∷ ns) = not (among n ns) && all_apart ns

absorb : (a b : Bool) → (a || (a || b)) ≡ (a || b)
absorb true b = refl
absorb false b = refl

among_joined_by : (n : List ℕ) (l : Line) (ps : List Program) → among n (map name_of (joined_by l ps)) ≡ (bytes_eq l.program n || among n (map name_of ps))
among_joined_by n l [] = refl
among_joined_by n l (p ∷ ps) =
    by_joining l p ps (λ qs. among n (map name_of qs) ≡ (bytes_eq l.program n || among n (map name_of (p ∷ ps))))
    (λ _ e. sym (absorb (bytes_eq p.name n) (among n (map name_of ps))) ∙ ap (λ (m : List ℕ). bytes_eq m n || (bytes_eq p.name n || among n (map name_of ps))) e)
    (λ _. refl)

among_gathered : (n : List ℕ) (ls : List Line) → among n (map name_of (gathered ls)) ≡ among n (map program_of_line ls)
among_gathered n [] = refl
among_gathered n (l ∷ ls) = among_joined_by n l (gathered ls) ∙ ap (λ (b : Bool). bytes_eq l.program n || b) (among_gathered n ls)

first_joined_by : (n : List ℕ) (l : Line) (ps : List Program) → first_is n (map name_of (joined_by l ps)) ≡ bytes_eq l.program n
first_joined_by n l [] = refl
first_joined_by n l (p ∷ ps) =
    by_joining l p ps (λ qs. first_is n (map name_of qs) ≡ bytes_eq l.program n) (λ _ e. ap (λ (m : List ℕ). bytes_eq m n) e) (λ _. refl)

-- the first program has the name of the first line
pub first_gathered : (n : List ℕ) (ls : List Line) → first_is n (map name_of (gathered ls)) ≡ first_is n (map program_of_line ls)
first_gathered n [] = refl
first_gathered n (l ∷ ls) = first_joined_by n l (gathered ls)

apart_joined_by : (l : Line) (ps : List Program) →
    ((first_is l.program (map name_of ps) || not (among l.program (map name_of ps))) && all_apart (map name_of ps)) ≡ all_apart (map name_of (joined_by l ps))
apart_joined_by l [] = refl
apart_joined_by l (p ∷ ps) =
    let n = l.program in
    let tests = λ (b : Bool). (b || not (b || among n (map name_of ps))) && all_apart (map name_of (p ∷ ps)) in
    by_joining l p ps (λ qs. tests (bytes_eq p.name n) ≡ all_apart (map name_of qs))
    (λ t _. ap tests t)
    (λ f. ap tests f ∙ ap (λ (b : Bool). not (b || among n (map name_of ps)) && all_apart (map name_of (p ∷ ps))) (sym f))

pub apart_gathered : (ls : List Line) → adjacent (map program_of_line ls) ≡ all_apart (map name_of (gathered ls))
apart_gathered [] = refl
apart_gathered (l ∷ ls) =
    let n = l.program in
    ap (λ (b : Bool). (b || not (among n (map program_of_line ls))) && adjacent (map program_of_line ls)) (sym (first_gathered n ls))
    ∙ ap (λ (b : Bool). (first_is n (map name_of (gathered ls)) || not b) && adjacent (map program_of_line ls)) (sym (among_gathered n ls))
    ∙ ap (λ (b : Bool). (first_is n (map name_of (gathered ls)) || not (among n (map name_of (gathered ls)))) && b) (apart_gathered ls)
    ∙ apart_joined_by l (gathered ls)

-- 4. These tests and the laws of a library.
abbrev pub name_fits : List ℕ → Bool
name_fits n = within 1 20 (length n)

name_passes : (f : List ℕ → Bool) (ps : List Program) (k : ℕ) (n : List ℕ) → list_all f (map name_of ps) ≡ true → name_at ps k ≡ Some n → f n ≡ true
name_passes f [] k n t e = let z : ◌≡◌ {A = ℕ} 0 1 = cc in absurd (omega arith)
name_passes f (q ∷ ps) zero n t e =
    let s : q.name ≡ n = cc in ap f (sym s) ∙ (and_parts (f q.name) (list_all f (map name_of ps)) t).0
name_passes f (q ∷ ps) (suc k) n t e = name_passes f ps k n (and_parts (f q.name) (list_all f (map name_of ps)) t).1 e

among_name : (ps : List Program) (k : ℕ) (n : List ℕ) → name_at ps k ≡ Some n → among n (map name_of ps) ≡ true
among_name [] k n e = let z : ◌≡◌ {A = ℕ} 0 1 = cc in absurd (omega arith)
among_name (q ∷ ps) zero n e =
    let s : q.name ≡ n = cc in or_left (bytes_eq q.name n) (among n (map name_of ps)) ((bytes_eq-Decides q.name n).1 s)
among_name (q ∷ ps) (suc k) n e = or_right (bytes_eq q.name n) (among n (map name_of ps)) (among_name ps k n e)

-- the first name does not come again
first_apart : (q : Program) (ps : List Program) (k : ℕ) (n : List ℕ) → all_apart (map name_of (q ∷ ps)) ≡ true → q.name ≡ n → name_at ps k ≡ Some n → ⊥
first_apart q ps k n t s e =
    let a : not (among q.name (map name_of ps)) ≡ true = (and_parts (not (among q.name (map name_of ps))) (all_apart (map name_of ps)) t).0 in
    both_ways (among q.name (map name_of ps)) (not-true _ a) (ap (λ (m : List ℕ). among m (map name_of ps)) s ∙ among_name ps k n e)

apart_names : (ps : List Program) → all_apart (map name_of ps) ≡ true → (j k : ℕ) (n : List ℕ) → name_at ps j ≡ Some n → name_at ps k ≡ Some n → j ≡ k
apart_names [] t j k n d e = let z : ◌≡◌ {A = ℕ} 0 1 = cc in absurd (omega arith)
apart_names (q ∷ ps) t zero zero n d e = refl
apart_names (q ∷ ps) t zero (suc k) n d e = let s : q.name ≡ n = cc in absurd (first_apart q ps k n t s e)
apart_names (q ∷ ps) t (suc j) zero n d e = let s : q.name ≡ n = cc in absurd (first_apart q ps j n t s d)
apart_names (q ∷ ps) t (suc j) (suc k) n d e =
    ap suc (apart_names ps (and_parts (not (among q.name (map name_of ps))) (all_apart (map name_of ps)) t).1 j k n d e)

pub lawful_from_tests : (ps : List Program) → list_all name_fits (map name_of ps) ≡ true → all_apart (map name_of ps) ≡ true → Lawful ps
lawful_from_tests ps t a = record {
  fit = λ k n e.
      let w : name_fits n ≡ true = name_passes name_fits ps k n t e in
      let b : (leb 1 (length n) ≡ true) × (leb (length n) 20 ≡ true) = and_parts _ _ w in
      (leb-true _ _ b.0, leb-true _ _ b.1);
  distinct = λ j k same. apart_names ps a j k same.name same.at_j same.at_k;
}

lawful_rest : (p : Program) (ps : List Program) → Lawful (p ∷ ps) → Lawful ps
lawful_rest p ps h = record {
  fit = λ k n e. h.fit (suc k) n e;
  distinct = λ j k same. let x : suc j ≡ suc k = h.distinct (suc j) (suc k) (record { name = same.name; at_j = same.at_j; at_k = same.at_k }) in omega arith;
}

pub fits_from_named : (ps : List Program) → Lawful ps → list_all name_fits (map name_of ps) ≡ true
fits_from_named [] h = refl
fits_from_named (p ∷ ps) h =
    let w = h.fit 0 p.name refl in
    and_from (name_fits p.name) (list_all name_fits (map name_of ps)) (and_from _ _ (le-leb _ _ w.0) (le-leb _ _ w.1)) (fits_from_named ps (lawful_rest p ps h))

not_among : (n : List ℕ) (ps : List Program) → ((k : ℕ) → name_at ps k ≡ Some n → ⊥) → among n (map name_of ps) ≡ false
not_among n [] h = refl
not_among n (p ∷ ps) h =
    or_from (bytes_eq p.name n) (among n (map name_of ps))
    (decided (bytes_eq p.name n) (λ t. h 0 (ap (λ (m : List ℕ). Some m) ((bytes_eq-Decides p.name n).0 t))))
    (not_among n ps (λ k e. h (suc k) e))
  where
    decided : (b : Bool) → (b ≡ true → ⊥) → b ≡ false
    decided true f = absurd (f refl)
    decided false f = refl

pub apart_from_distinct : (ps : List Program) → Lawful ps → all_apart (map name_of ps) ≡ true
apart_from_distinct [] h = refl
apart_from_distinct (p ∷ ps) h =
    and_from (not (among p.name (map name_of ps))) (all_apart (map name_of ps))
    (not_from_false (among p.name (map name_of ps)) (not_among p.name ps (λ k e. let x : 0 ≡ suc k = h.distinct 0 (suc k) (record { name = p.name; at_j = refl; at_k = e }) in omega arith)))
    (apart_from_distinct ps (lawful_rest p ps h))

-- 5. The programs of the lines of programs are those programs, if each has a string and their names are apart.
joins_not : (l : Line) (ps : List Program) → among l.program (map name_of ps) ≡ false → joined_by l ps ≡ record { name = l.program; strings = l.string ∷ [] } ∷ ps
joins_not l [] h = refl
joins_not l (p ∷ ps) h =
    cond-false (bytes_eq p.name l.program) _ _ (or_parts (bytes_eq p.name l.program) (among l.program (map name_of ps)) h).0

gathered_program : (n : List ℕ) (s : NamedString) (ss : List NamedString) (ls : List Line) → among n (map name_of (gathered ls)) ≡ false →
    gathered (map (line n) (s ∷ ss) ++ ls) ≡ record { name = n; strings = s ∷ ss } ∷ gathered ls
gathered_program n s [] ls h = joins_not (line n s) (gathered ls) h
gathered_program n s (t ∷ ss) ls h =
    ap (joined_by (line n s)) (gathered_program n t ss ls h) ∙ cond-true (bytes_eq n n) _ _ (same_name n)

gathered_first : (n : List ℕ) (ss : List NamedString) (ps : List Program) → not_empty ss ≡ true → not (among n (map name_of ps)) ≡ true → gathered (listed ps) ≡ ps →
    gathered (map (line n) ss ++ listed ps) ≡ record { name = n; strings = ss } ∷ ps
gathered_first n [] ps t h e = absurd (both_ways false refl t)
gathered_first n (s ∷ ss) ps t h e =
    gathered_program n s ss (listed ps) (ap (λ (qs : List Program). among n (map name_of qs)) e ∙ not-true _ h)
    ∙ ap (λ (qs : List Program). record { name = n; strings = s ∷ ss } ∷ qs) e

pub gathered_listed : (ps : List Program) → list_all has_strings ps ≡ true → all_apart (map name_of ps) ≡ true → gathered (listed ps) ≡ ps
gathered_listed [] t a = refl
gathered_listed (p ∷ ps) t a =
    let tests = and_parts (has_strings p) (list_all has_strings ps) t in
    let apart = and_parts (not (among p.name (map name_of ps))) (all_apart (map name_of ps)) a in
    gathered_first p.name p.strings ps tests.0 apart.0 (gathered_listed ps tests.1 apart.1)

-- each gathered program has a string
filled_joined_by : (l : Line) (ps : List Program) → list_all has_strings ps ≡ true → list_all has_strings (joined_by l ps) ≡ true
filled_joined_by l [] h = refl
filled_joined_by l (p ∷ ps) h =
    by_joining l p ps (λ qs. list_all has_strings qs ≡ true) (λ _ _. (and_parts (has_strings p) (list_all has_strings ps) h).1) (λ _. h)

pub filled_gathered : (ls : List Line) → list_all has_strings (gathered ls) ≡ true
filled_gathered [] = refl
filled_gathered (l ∷ ls) = filled_joined_by l (gathered ls) (filled_gathered ls)
