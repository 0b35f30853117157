-- A string that is segmented and filled again. Assumes nothing.
use Rattle.std.proofs.Common.{◌≡◌, ℕ, zero, suc, ◌-◌, Bool, true, false, cond, not, List, [], ◌∷◌, ◌++◌, length, drop, is_some, Some, None, Option, refl, ap, ◌∙◌, ap₂, arith, lit≤}
use Rattle.std.proofs.lemmas.Bool.{and_parts, not-true, ne_eqb}
use Rattle.code.specs.Meaning.{CodeLaws, marked}
use Rattle.machine.specs.Texts.{Text, Code, begins, creation, highest_mark}
use Rattle.machine.specs.Strings.{marked_from, with_mark, segment_from}
use Rattle.machine.specs.Functions.{for_byte, filled}
use Rattle.machine.specs.Laws.{unmarked, ParametersGoBackWhereTheyStood}
use Rattle.machine.proofs.Common.{never, begun}

-- a byte that is no mark
no_mark : (code : Code) (b : ℕ) → marked code b ≡ false → (creation code b ≡ false) × (code.mark_number b ≡ None)
no_mark code b = go (creation code b) (code.mark_number b)
  where
    go : (c : Bool) (o : Option ℕ) → cond c true (is_some o) ≡ false → (c ≡ false) × (o ≡ None)
    go true o e = absurd (never (cc))
    go false None e = (refl, refl)
    go false (Some n) e = absurd (never (cc))

-- the head of a text without marks is none, and neither has the rest one
head_unmarked : (code : Code) (b : ℕ) (bs : Text) → unmarked code (b ∷ bs) ≡ true →
    (creation code b ≡ false) × (code.mark_number b ≡ None) × (unmarked code bs ≡ true)
head_unmarked code b bs e =
    let both = and_parts (not (marked code b)) (unmarked code bs) e in
    let head = no_mark code b (not-true _ both.0) in
    (head.0, head.1, both.1)

unmarked_highest : (code : Code) (t : Text) → unmarked code t ≡ true → highest_mark code t ≡ 0
unmarked_highest code [] e = refl
unmarked_highest code (b ∷ bs) e =
    let head = head_unmarked code b bs e in
    rw (head.1, unmarked_highest code bs head.2)

-- the value of a byte that is no mark is that byte
itself : (code : Code) (ps : List Text) (created : Text) (b : ℕ) → creation code b ≡ false → code.mark_number b ≡ None →
    for_byte code ps created b ≡ b ∷ []
itself code ps created b c n = rw (c, n)

-- the value of the first segment mark is the first parameter
first_parameter : (code : Code) → CodeLaws code → (p created : Text) → for_byte code (p ∷ []) created (code.segment_mark 1) ≡ p
first_parameter code laws p created =
    let number : code.mark_number (code.segment_mark 1) ≡ Some 1 = laws.number_of_mark 1 (lit≤ tt) (lit≤ tt) in
    let no-creation : creation code (code.segment_mark 1) ≡ false =
    ne_eqb _ _ (λ same. let no_number = ap code.mark_number same ∙ laws.creation_no_mark in never (cc)) in
    rw (no-creation, number)

filled_unmarked : (code : Code) (created : Text) (ps : List Text) (t : Text) → unmarked code t ≡ true → filled code ps created t ≡ t
filled_unmarked code created ps [] e = refl
filled_unmarked code created ps (b ∷ bs) e =
    let head = head_unmarked code b bs e in
    ap₂ ◌++◌ (itself code ps created b head.0 head.1) (filled_unmarked code created ps bs head.2)

-- the text a ∷ p is marked, and filled in again
module _ (code : Code) (laws : CodeLaws code) (created : Text) (a : ℕ) (p : Text) where
  abbrev marks : ℕ → Text → Text
  marks skip t = marked_from (a ∷ p) (code.segment_mark 1) skip t

  abbrev fills : Text → Text
  fills t = filled code ((a ∷ p) ∷ []) created t

  filled_marked : (t : Text) (skip : ℕ) → unmarked code t ≡ true → fills (marks skip t) ≡ drop skip t
  filled_marked [] zero e = refl
  filled_marked [] (suc skip) e = refl
  filled_marked (b ∷ bs) zero e =
      let head = head_unmarked code b bs e in
      go (begins (a ∷ p) (b ∷ bs)) refl (itself code _ created b head.0 head.1)
      (filled_marked bs (length (a ∷ p) - 1) head.2) (filled_marked bs 0 head.2)
    where
      go : (t : Bool) → begins (a ∷ p) (b ∷ bs) ≡ t → for_byte code ((a ∷ p) ∷ []) created b ≡ b ∷ [] →
          fills (marks (length (a ∷ p) - 1) bs) ≡ drop (length (a ∷ p) - 1) bs → fills (marks 0 bs) ≡ bs →
          fills (cond t (code.segment_mark 1 ∷ marks (length (a ∷ p) - 1) bs) (b ∷ marks 0 bs)) ≡ b ∷ bs
      go true found same behind rest =
          let less : length (a ∷ p) - 1 ≡ length p = omega arith in
          ap₂ ◌++◌ (first_parameter code laws (a ∷ p) created) (behind ∙ ap (λ k. drop k bs) less) ∙ begun (a ∷ p) (b ∷ bs) found
      go false found same behind rest = ap₂ ◌++◌ same rest
  filled_marked (b ∷ bs) (suc skip) e = filled_marked bs skip (head_unmarked code b bs e).2

filled_again : (code : Code) → CodeLaws code → (created p t : Text) → unmarked code t ≡ true →
    filled code (p ∷ []) created (with_mark p (code.segment_mark 1) t) ≡ t
filled_again code laws created [] t e = filled_unmarked code created ([] ∷ []) t e
filled_again code laws created (a ∷ p) t e = filled_marked code laws created a p t 0 e

pub parameters_return : ParametersGoBackWhereTheyStood
parameters_return code laws n t p created e =
    ap (λ k. filled code (p ∷ []) created (segment_from code (suc k) (p ∷ []) 0 t).marked_text) (unmarked_highest code t e)
    ∙ filled_again code laws created p t e
