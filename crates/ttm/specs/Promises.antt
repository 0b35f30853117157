-- What is promised of processors, by the definitions that expand and look are held to: for every code, every keeper and every
-- list of calls. Assumes nothing.
use Rattle.std.specs.Prelude.{◌≡◌, List}
use Rattle.library.specs.Meaning.{Library}
use Rattle.machine.specs.declared.amounts.Limits.{Limits}
use Rattle.machine.specs.Texts.{Code}
use Rattle.machine.specs.Promises.{RaisingLimitsChangesNothingBeforeTheFirstShortage, ReportedNeedsAreExact, AnEmptiedDictionaryIsNew, AnEmptiedProcessorIsAsNew, FinishedUnlessOutOfSteps}
use Rattle.machine.specs.Invariants.{NamesAreAlwaysDistinct, PointersAreAlwaysWithin}
use Rattle.machine.specs.Calls.{Call, After, Memory, history, memory_after, new}

-- what a list of calls answers and leaves, from a new processor with a library of this meaning
pub record Served : Type 0 where
  pub answers : List After
  pub left : Memory

abbrev pub served : Code → Limits → List Call → Library → Served
served code p cs l = record { answers = history code p (new l) cs; left = memory_after code p (new l) cs }

-- Expand sees a keeper by its meaning alone. So two keepers of equal meaning, of whatever kinds, as an opened image behind a lock
-- and a locked shelf, give every list of calls the same answers, dictionaries and meanings, in every code.
abbrev pub KeepersOfEqualMeaningServeAlike : Type 0
KeepersOfEqualMeaningServeAlike = (k l : Library) → k ≡ l → (code : Code) (p : Limits) (cs : List Call) → served code p cs k ≡ served code p cs l

pub record PromisesHold : Type 0 where
  pub raising : RaisingLimitsChangesNothingBeforeTheFirstShortage
  pub needs : ReportedNeedsAreExact
  pub emptied : AnEmptiedDictionaryIsNew
  pub renewed : AnEmptiedProcessorIsAsNew
  pub finished : FinishedUnlessOutOfSteps
  pub alike : KeepersOfEqualMeaningServeAlike
  pub distinct : NamesAreAlwaysDistinct
  pub within : PointersAreAlwaysWithin
