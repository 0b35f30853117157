-- The strings of a program that was found or not, as COPY and retrieval fetch them. Assumes nothing.
use Rattle.std.proofs.Common.{◌≡◌, Ok, Err, Result, Some, None, Option, refl}
use Rattle.std.specs.Option.{option_map}
use Rattle.refusal.specs.declared.Refusal.{Refusal}
use Rattle.library.specs.Meaning.{Program, strings_of}
use Rattle.machine.specs.Texts.{Text, Code}
use Rattle.machine.specs.Chain.{give}
use Rattle.machine.specs.World.{World}
use Rattle.machine.specs.Libraries.{fetching, fetched, copy_found, retrieve}
use Rattle.meter.specs.declared.meter.Meter.{Meter}
use Rattle.scan.specs.Meeting.{Meets}
use Rattle.scan.proofs.Meetings.{on_ok, on_err}

-- no program has no strings
pub retrieve_fetches : (code : Code) (p : Option Program) (w : World) → retrieve code p w ≡ fetching code (strings_of p) w
retrieve_fetches code None w = refl
retrieve_fetches code (Some p) w = refl

module _ (code : Code) (m m' : Meter) (w after left : World) where
  then_fetched : (p : Program) (r : Result (Unit {0}) Refusal) → Meets m m' r after left (fetching code p.strings w) → Meets m m' r (fetched after) left (copy_found code (Some p) w)
  then_fetched p (Ok u) h = on_ok m m' m' (Ok tt) after (fetched after) left left (fetching code p.strings w) (λ v. give (fetched v)) tt h (record { bounds_stay = refl; as_defined = refl })
  then_fetched p (Err e) h = on_err m m' m' (Err e) after (fetched after) left left (fetching code p.strings w) (λ v. give (fetched v)) e h

  -- a program that has a name is there
  pub copied : (p : Option Program) (n : Text) → option_map (λ (q : Program). q.name) p ≡ Some n → (r : Result (Unit {0}) Refusal) → Meets m m' r after left (fetching code (strings_of p) w) → Meets m m' r (fetched after) left (copy_found code p w)
  copied None n named r h = absurd (cc)
  copied (Some p) n named r h = then_fetched p r h
