-- Stores and deletes up to the first that is refused, in two parts.
use Rattle.std.proofs.Common.{◌≡◌, List, [], ◌∷◌, ◌++◌, Some, None, Option, sym, refl, ap, ◌∙◌}
use Rattle.refusal.specs.Outcome.{kept_or}
use Rattle.refusal.specs.declared.Refusal.{Refusal}
use Rattle.library.specs.Meaning.{Library}
use Rattle.library.specs.Operations.{Operation, refusal_of, done}
use Rattle.std.specs.Option.{option_or}
use Rattle.exchange.specs.Stopping.{first_refusal, until_refused, ComesTo}

-- what os come to from l on is what ps come to from m on
pub record Alike (l : Library) (os : List Operation) (m : Library) (ps : List Operation) : Type 0 where
  pub refused : first_refusal l os ≡ first_refusal m ps
  pub leaves : until_refused l os ≡ until_refused m ps

-- none of the first part is refused: the second goes on from what it leaves
abbrev GoesOn : Library → List Operation → List Operation → Type 0
GoesOn l os more = (first_refusal l (os ++ more) ≡ first_refusal (until_refused l os) more) × (until_refused l (os ++ more) ≡ until_refused (until_refused l os) more)

goes_on : (l : Library) (os more : List Operation) → first_refusal l os ≡ None → GoesOn l os more
goes_on l [] more e = (refl, refl)
goes_on l (o ∷ os) more e = go (refusal_of l o) (goes_on (done l o) os more) e
  where
    go : (a : Option Refusal) → (first_refusal (done l o) os ≡ None → GoesOn (done l o) os more) → option_or a (first_refusal (done l o) os) ≡ None → (option_or a (first_refusal (done l o) (os ++ more)) ≡ first_refusal (kept_or a (until_refused (done l o) os) l) more) × (kept_or a (until_refused (done l o) (os ++ more)) l ≡ until_refused (kept_or a (until_refused (done l o) os) l) more)
    go None rest e = rest e
    go (Some r) rest e = (cc, cc)

-- one of the first part is refused: the second changes nothing
abbrev Stops : Library → List Operation → List Operation → Refusal → Type 0
Stops l os more r = (first_refusal l (os ++ more) ≡ Some r) × (until_refused l (os ++ more) ≡ until_refused l os)

stops : (l : Library) (os more : List Operation) (r : Refusal) → first_refusal l os ≡ Some r → Stops l os more r
stops l [] more r e = (cc, cc)
stops l (o ∷ os) more r e = go (refusal_of l o) (stops (done l o) os more r) e
  where
    go : (a : Option Refusal) → (first_refusal (done l o) os ≡ Some r → Stops (done l o) os more r) → option_or a (first_refusal (done l o) os) ≡ Some r → (option_or a (first_refusal (done l o) (os ++ more)) ≡ Some r) × (kept_or a (until_refused (done l o) (os ++ more)) l ≡ kept_or a (until_refused (done l o) os) l)
    go None rest e = rest e
    go (Some s) rest e = (e, refl)

-- The same of what operations come to.
pub on : (l m n : Library) (os more : List Operation) (r : Option Refusal) → ComesTo l os None m → ComesTo m more r n → ComesTo l (os ++ more) r n
on l m n os more r first second =
    let both = goes_on l os more (sym first.refusal) in
    record {
      refusal = second.refusal ∙ ap (λ (x : Library). first_refusal x more) first.left ∙ sym both.0;
      left = second.left ∙ ap (λ (x : Library). until_refused x more) first.left ∙ sym both.1;
    }

pub off : (l m : Library) (os more : List Operation) (r : Refusal) → ComesTo l os (Some r) m → ComesTo l (os ++ more) (Some r) m
off l m os more r first =
    let both = stops l os more r (sym first.refusal) in
    record { refusal = sym both.0; left = first.left ∙ sym both.1 }

-- A loop, in which os are still to do: one part of them was not refused ..
pub alike_on : (l m start : Library) (os one rest all : List Operation) → os ≡ one ++ rest → ComesTo l one None m → Alike l os start all → Alike m rest start all
alike_on l m start os one rest all is told alike =
    let both = goes_on l one rest (sym told.refusal) in
    record {
      refused = ap (λ (x : Library). first_refusal x rest) told.left ∙ sym both.0 ∙ sym (ap (first_refusal l) is) ∙ alike.refused;
      leaves = ap (λ (x : Library). until_refused x rest) told.left ∙ sym both.1 ∙ sym (ap (until_refused l) is) ∙ alike.leaves;
    }

-- .. or was refused ..
pub alike_off : (l m start : Library) (os one rest all : List Operation) (r : Refusal) → os ≡ one ++ rest → ComesTo l one (Some r) m → Alike l os start all → ComesTo start all (Some r) m
alike_off l m start os one rest all r is told alike =
    let both = stops l one rest r (sym told.refusal) in
    record {
      refusal = sym both.0 ∙ sym (ap (first_refusal l) is) ∙ alike.refused;
      left = told.left ∙ sym both.1 ∙ sym (ap (until_refused l) is) ∙ alike.leaves;
    }

-- .. or none is left to do.
pub alike_end : (l start : Library) (os all : List Operation) → os ≡ [] → Alike l os start all → ComesTo start all None l
alike_end l start os all is alike =
    record { refusal = sym (ap (first_refusal l) is) ∙ alike.refused; left = sym (ap (until_refused l) is) ∙ alike.leaves }

-- None of both parts is refused: so it is with each of them.
pub record BothPass (l : Library) (os more : List Operation) : Type 0 where
  pub first : first_refusal l os ≡ None
  pub second : first_refusal (until_refused l os) more ≡ None
  pub leaves : until_refused l (os ++ more) ≡ until_refused (until_refused l os) more

pub both_pass : (l : Library) (os more : List Operation) → first_refusal l (os ++ more) ≡ None → BothPass l os more
both_pass l os more e = go (first_refusal l os) (goes_on l os more) (stops l os more) refl
  where
    go : (a : Option Refusal) → (first_refusal l os ≡ None → GoesOn l os more) → ((r : Refusal) → first_refusal l os ≡ Some r → Stops l os more r) → first_refusal l os ≡ a → BothPass l os more
    go None on off is = let both = on is in record { first = is; second = sym both.0 ∙ e; leaves = both.1 }
    go (Some r) on off is = let both = off r is in let z : ◌≡◌ {A = Option Refusal} None (Some r) = sym e ∙ both.0 in record { first = cc; second = cc; leaves = cc }
