-- Why an expansion stops: a question whose no is a shortage, or a fault. Each has its refusal, and a refusal its number.
-- Assumes nothing.
use Rattle.std.specs.Prelude.{◌≢◌}
use Rattle.refusal.specs.Numbers.{number_of}
use Rattle.refusal.specs.declared.Refusal.{Refusal}
use Rattle.refusal.specs.declared.Refusal.TheVariants.{SourceTooLong, OutOfSteps, RollFull, Unmatched, CallOpen, FunctionUndefined, TooFewParameters, NoInteger, SignedInteger, TooManyDigits, ClassUndefined, NameUndefined, NotAString, ProgramNameLength, Locked, ProgramPresent, ProgramAbsent, LibraryFull, ForeignText, NoQuotient, NoMarkNumber, NoCreatedNumber, TooManyClasses, NamesFull, StoreFull, PrintFull, ScanFull}

-- the questions that compare a need with a bound: no is a shortage
pub data Question : Type 0 where
  -- does the source fit? is a step left? does the roll fit?
  source? step? roll? : Question
  -- do the names fit? the store? what is printed? left text, right text and value?
  names? store? print? value? : Question

abbrev pub shortage : Question → Refusal
shortage source? = SourceTooLong
shortage step? = OutOfSteps
shortage roll? = RollFull
shortage names? = NamesFull
shortage store? = StoreFull
shortage print? = PrintFull
shortage value? = ScanFull

-- what else stops an expansion; no bound is seen there
pub data Fault : Type 0 where
  unmatched call_open : Fault
  undefined too_few_parameters : Fault
  no_integer signed_integer too_many_digits : Fault
  no_class no_name not_a_string : Fault
  program_name_length locked program_present program_absent library_full foreign_text : Fault
  no_quotient no_mark_number no_created_number too_many_classes : Fault

abbrev pub refusal_of : Fault → Refusal
refusal_of unmatched = Unmatched
refusal_of call_open = CallOpen
refusal_of undefined = FunctionUndefined
refusal_of too_few_parameters = TooFewParameters
refusal_of no_integer = NoInteger
refusal_of signed_integer = SignedInteger
refusal_of too_many_digits = TooManyDigits
refusal_of no_class = ClassUndefined
refusal_of no_name = NameUndefined
refusal_of not_a_string = NotAString
refusal_of program_name_length = ProgramNameLength
refusal_of locked = Locked
refusal_of program_present = ProgramPresent
refusal_of program_absent = ProgramAbsent
refusal_of library_full = LibraryFull
refusal_of foreign_text = ForeignText
refusal_of no_quotient = NoQuotient
refusal_of no_mark_number = NoMarkNumber
refusal_of no_created_number = NoCreatedNumber
refusal_of too_many_classes = TooManyClasses

-- No fault has the number of a shortage.
abbrev pub FaultsAreNoShortages : Type 0
FaultsAreNoShortages = (f : Fault) (q : Question) → number_of (refusal_of f) ≢ number_of (shortage q)
