-- A name that is made of bytes, or is not, as `ProgramName::try_from` tells of it.
use Rattle.std.proofs.Common.{◌≡◌, Bool, true, false, cond, ℕ, List, Ok, Err, Result, refl}
use Rattle.refusal.specs.declared.Refusal.{Refusal}
use Rattle.refusal.specs.declared.Refusal.TheVariants.{ProgramNameLength}

pub made : (fits : Bool) (name bytes : List ℕ) → Ok name ≡ cond {A = Result (List ℕ) Refusal} fits (Ok bytes) (Err ProgramNameLength) → (fits ≡ true) × (name ≡ bytes)
made true name bytes e = (refl, cc)
made false name bytes e = cc

pub refused : (fits : Bool) (bytes : List ℕ) (refusal : Refusal) → Err refusal ≡ cond {A = Result (List ℕ) Refusal} fits (Ok bytes) (Err ProgramNameLength)
    → (fits ≡ false) × (refusal ≡ ProgramNameLength)
refused true bytes refusal e = cc
refused false bytes refusal e = (refl, cc)
