-- An attempt that begins with another one.
use Rattle.std.proofs.Common.{◌≡◌, ℤ, Ok, Err, sym, ap, ◌∙◌, FitsSigned, w64, to_z, of_z}
use Rattle.std.specs.Prelude.{Result}
use Rattle.std.specs.Result.{IsErrAnd}
use Rattle.std.proofs.lemmas.Int.{to_z-of_z}
use Rattle.refusal.specs.declared.Refusal.{Refusal}
use Rattle.number.specs.Results.{Attempt, GoesOn, Stops, ComesTo}

-- first one attempt, and with its value another one
abbrev pub then : {V U : Type 0} → Attempt V → (V → Attempt U) → Attempt U
then attempt rest w go = attempt w (λ v. rest v w go)

-- the first one stops, and so does the whole
pub stopped : {V U : Type 0} (attempt : Attempt V) (rest : V → Attempt U) (r : Result U Refusal) (e : Refusal) → IsErrAnd r (λ x. x ≡ e) → Stops attempt e → ComesTo (then attempt rest) r
stopped attempt rest (Ok u) e said h = absurd said
stopped attempt rest (Err x) e said h = record { why = h.why; says = h.says ∙ sym said; stops = λ w go. h.stops w (λ v. rest v w go) }

-- it goes on, and the rest decides
pub went_on : {V U : Type 0} (attempt : Attempt V) (rest : V → Attempt U) (v : V) (r : Result U Refusal) → GoesOn attempt v → ComesTo (rest v) r → ComesTo (then attempt rest) r
went_on attempt rest v (Ok u) h k = record { on = λ w go. h.on w (λ v. rest v w go) ∙ k.on w go }
went_on attempt rest v (Err e) h k = record { why = k.why; says = k.says; stops = λ w go. h.on w (λ v. rest v w go) ∙ k.stops w go }

-- the attempt at a value
pub at_value : {U : Type 0} (value u : U) → u ≡ value → GoesOn (λ w go. go value) u
at_value value u is = record { on = λ w go. ap go (sym is) }

-- The same of integers that fit an i64.

abbrev held : ℤ → ℤ
held z = to_z w64 (of_z w64 z)

module _ (attempt : Attempt (ℤ × ℤ)) (rest : ℤ × ℤ → Attempt ℤ) (x y : ℤ) (fits_x : FitsSigned w64 x) (fits_y : FitsSigned w64 y) where
  pub two_went_on : (r : Result ℤ Refusal) → GoesOn attempt (x, y) → ComesTo (rest (held x, held y)) r → ComesTo (then attempt rest) r
  two_went_on r h k = went_on attempt rest (x, y) r h (simp (to_z-of_z w64 x fits_x, to_z-of_z w64 y fits_y) at k)

  pub two_gave : (u : ℤ) → FitsSigned w64 u → GoesOn attempt (x, y) → GoesOn (rest (held x, held y)) u → GoesOn (then attempt rest) (held u)
  two_gave u fits h k = rw (to_z-of_z w64 u fits) (two_went_on (Ok u) h k)
