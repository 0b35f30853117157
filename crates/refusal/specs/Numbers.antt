-- The number of each refusal. Assumes nothing.
use Rattle.std.specs.Prelude.{◌≡◌, ℕ}
use Rattle.refusal.specs.declared.Refusal.{Refusal}
use Rattle.refusal.specs.declared.Refusal.TheVariants.{LimitOutOfRange, WrongCode, ContentsIncomplete, ProgramNameMalformed, ProgramSplit, TextsMisfit, ForeignByte, AreaTooShort, AllowanceOutOfRange, ForeignSource, SourceTooLong, OutOfSteps, RollFull, Unmatched, CallOpen, FunctionUndefined, TooFewParameters, NoInteger, SignedInteger, TooManyDigits, ClassUndefined, NameUndefined, NotAString, ProgramNameLength, Locked, ProgramPresent, ProgramAbsent, LibraryFull, ForeignText, NoQuotient, NoMarkNumber, NoCreatedNumber, TooManyClasses, NamesFull, StoreFull, PrintFull, ScanFull}

abbrev pub number_of : Refusal → ℕ
number_of LimitOutOfRange = 1
number_of WrongCode = 2
number_of ContentsIncomplete = 3
number_of ProgramNameMalformed = 4
number_of ProgramSplit = 5
number_of TextsMisfit = 6
number_of ForeignByte = 7
number_of AreaTooShort = 10
number_of AllowanceOutOfRange = 11
number_of ForeignSource = 12
number_of SourceTooLong = 13
number_of OutOfSteps = 14
number_of RollFull = 15
number_of Unmatched = 16
number_of CallOpen = 17
number_of FunctionUndefined = 18
number_of TooFewParameters = 19
number_of NoInteger = 20
number_of SignedInteger = 21
number_of TooManyDigits = 22
number_of ClassUndefined = 23
number_of NameUndefined = 24
number_of NotAString = 25
number_of ProgramNameLength = 26
number_of Locked = 27
number_of ProgramPresent = 28
number_of ProgramAbsent = 29
number_of LibraryFull = 30
number_of ForeignText = 31
number_of NoQuotient = 32
number_of NoMarkNumber = 33
number_of NoCreatedNumber = 34
number_of TooManyClasses = 35
number_of NamesFull = 36
number_of StoreFull = 37
number_of PrintFull = 38
number_of ScanFull = 39

-- no two refusals have one number
abbrev pub NumbersDiffer : Type 0
NumbersDiffer = (r s : Refusal) → number_of r ≡ number_of s → r ≡ s
