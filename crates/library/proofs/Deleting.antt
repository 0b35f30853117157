-- What is left when a program is deleted.
use Rattle.std.proofs.Common.{◌≡◌, ℕ, zero, suc, List, [], ◌∷◌, ◌++◌, take, drop, Some, None, Option, sym, refl, ap, ◌∙◌, add-one, arith}
use Rattle.std.specs.Option.{option_map}
use Rattle.library.specs.Meaning.{Program, Library, Lawful, place, name_at, program_at}
use Rattle.library.specs.Keeping.{without_found, without_place, space_of, plus}
use Rattle.library.specs.Laws.{LawfulAfterDelete, taken, whole_space}
use Rattle.library.proofs.Spaces.{plus_assoc, plus_swap}

-- without program k
abbrev cut : ℕ → List Program → List Program
cut k ps = take k ps ++ drop (suc k) ps

-- where program j of what is left stood before
abbrev stood : ℕ → ℕ → ℕ
stood zero j = suc j
stood (suc k) zero = zero
stood (suc k) (suc j) = suc (stood k j)

stood_apart : (k i j : ℕ) → stood k i ≡ stood k j → i ≡ j
stood_apart zero i j e = omega arith
stood_apart (suc k) zero zero e = refl
stood_apart (suc k) zero (suc j) e = omega arith
stood_apart (suc k) (suc i) zero e = omega arith
stood_apart (suc k) (suc i) (suc j) e = ap (λ (n : ℕ). suc n) (stood_apart k i j (omega arith))

at_cut : (k : ℕ) (ps : List Program) (j : ℕ) → program_at (cut k ps) j ≡ program_at ps (stood k j)
at_cut zero [] j = refl
at_cut (suc k) [] j = refl
at_cut zero (p ∷ ps) j = refl
at_cut (suc k) (p ∷ ps) zero = refl
at_cut (suc k) (p ∷ ps) (suc j) = at_cut k ps j

lawful_cut : (k : ℕ) (ps : List Program) → Lawful ps → Lawful (cut k ps)
lawful_cut k ps lawful = record {
  fit = λ j n e. lawful.fit (stood k j) n (before j n e);
  distinct = λ i j same. stood_apart k i j (lawful.distinct _ _ (record { name = same.name; at_j = before i _ same.at_j; at_k = before j _ same.at_k }));
}
  where
    before : (j : ℕ) (n : List ℕ) → name_at (cut k ps) j ≡ Some n → name_at ps (stood k j) ≡ Some n
    before j n e = ap (option_map (λ (q : Program). q.name)) (sym (at_cut k ps j)) ∙ e

taken_cut : (k : ℕ) (ps : List Program) (p : Program) → program_at ps k ≡ Some p → plus (space_of p) (taken (cut k ps)) ≡ taken ps
taken_cut k [] p e = cc
taken_cut zero (q ∷ ps) p e = let same : p ≡ q = cc in ap (λ (x : Program). plus (space_of x) (taken ps)) same
taken_cut (suc k) (q ∷ ps) p e =
    plus_swap (space_of p) (space_of q) (taken (cut k ps)) ∙ ap (plus (space_of q)) (taken_cut k ps p e)

pub lawful_after_delete : LawfulAfterDelete
lawful_after_delete l n lawful = found (place n l.programs)
  where
    at : (k : ℕ) (o : Option Program) → Lawful (without_place l k o).programs
    at k None = lawful
    at k (Some p) = rw (add-one k) (lawful_cut k l.programs lawful)

    found : (o : Option ℕ) → Lawful (without_found l o).programs
    found None = lawful
    found (Some k) = at k (program_at l.programs k)

-- the space that a program took is left again
pub space_without : (l : Library) (o : Option ℕ) → whole_space (without_found l o) ≡ whole_space l
space_without l None = refl
space_without l (Some k) = at (program_at l.programs k) refl
  where
    at : (o : Option Program) → program_at l.programs k ≡ o → whole_space (without_place l k o) ≡ whole_space l
    at None e = refl
    at (Some p) e =
        rw (add-one k)
        (plus_assoc l.space (space_of p) (taken (cut k l.programs))
        ∙ ap (plus l.space) (taken_cut k l.programs p e))
