use Rattle.std.proofs.Common.{sym, ap}
use Rattle.refusal.specs.Names.{name_of}
use Rattle.refusal.proofs.Refusal.name.Goals as goal

pub returns-in-LimitOutOfRange : goal.returns-in-LimitOutOfRange
returns-in-LimitOutOfRange c = sym (ap name_of c.in-LimitOutOfRange.is)

pub returns-in-WrongCode : goal.returns-in-WrongCode
returns-in-WrongCode c = sym (ap name_of c.in-WrongCode.is)

pub returns-in-ContentsIncomplete : goal.returns-in-ContentsIncomplete
returns-in-ContentsIncomplete c = sym (ap name_of c.in-ContentsIncomplete.is)

pub returns-in-ProgramNameMalformed : goal.returns-in-ProgramNameMalformed
returns-in-ProgramNameMalformed c = sym (ap name_of c.in-ProgramNameMalformed.is)

pub returns-in-ProgramSplit : goal.returns-in-ProgramSplit
returns-in-ProgramSplit c = sym (ap name_of c.in-ProgramSplit.is)

pub returns-in-TextsMisfit : goal.returns-in-TextsMisfit
returns-in-TextsMisfit c = sym (ap name_of c.in-TextsMisfit.is)

pub returns-in-ForeignByte : goal.returns-in-ForeignByte
returns-in-ForeignByte c = sym (ap name_of c.in-ForeignByte.is)

pub returns-in-AreaTooShort : goal.returns-in-AreaTooShort
returns-in-AreaTooShort c = sym (ap name_of c.in-AreaTooShort.is)

pub returns-in-AllowanceOutOfRange : goal.returns-in-AllowanceOutOfRange
returns-in-AllowanceOutOfRange c = sym (ap name_of c.in-AllowanceOutOfRange.is)

pub returns-in-ForeignSource : goal.returns-in-ForeignSource
returns-in-ForeignSource c = sym (ap name_of c.in-ForeignSource.is)

pub returns-in-SourceTooLong : goal.returns-in-SourceTooLong
returns-in-SourceTooLong c = sym (ap name_of c.in-SourceTooLong.is)

pub returns-in-OutOfSteps : goal.returns-in-OutOfSteps
returns-in-OutOfSteps c = sym (ap name_of c.in-OutOfSteps.is)

pub returns-in-RollFull : goal.returns-in-RollFull
returns-in-RollFull c = sym (ap name_of c.in-RollFull.is)

pub returns-in-Unmatched : goal.returns-in-Unmatched
returns-in-Unmatched c = sym (ap name_of c.in-Unmatched.is)

pub returns-in-CallOpen : goal.returns-in-CallOpen
returns-in-CallOpen c = sym (ap name_of c.in-CallOpen.is)

pub returns-in-FunctionUndefined : goal.returns-in-FunctionUndefined
returns-in-FunctionUndefined c = sym (ap name_of c.in-FunctionUndefined.is)

pub returns-in-TooFewParameters : goal.returns-in-TooFewParameters
returns-in-TooFewParameters c = sym (ap name_of c.in-TooFewParameters.is)

pub returns-in-NoInteger : goal.returns-in-NoInteger
returns-in-NoInteger c = sym (ap name_of c.in-NoInteger.is)

pub returns-in-SignedInteger : goal.returns-in-SignedInteger
returns-in-SignedInteger c = sym (ap name_of c.in-SignedInteger.is)

pub returns-in-TooManyDigits : goal.returns-in-TooManyDigits
returns-in-TooManyDigits c = sym (ap name_of c.in-TooManyDigits.is)

pub returns-in-ClassUndefined : goal.returns-in-ClassUndefined
returns-in-ClassUndefined c = sym (ap name_of c.in-ClassUndefined.is)

pub returns-in-NameUndefined : goal.returns-in-NameUndefined
returns-in-NameUndefined c = sym (ap name_of c.in-NameUndefined.is)

pub returns-in-NotAString : goal.returns-in-NotAString
returns-in-NotAString c = sym (ap name_of c.in-NotAString.is)

pub returns-in-ProgramNameLength : goal.returns-in-ProgramNameLength
returns-in-ProgramNameLength c = sym (ap name_of c.in-ProgramNameLength.is)

pub returns-in-Locked : goal.returns-in-Locked
returns-in-Locked c = sym (ap name_of c.in-Locked.is)

pub returns-in-ProgramPresent : goal.returns-in-ProgramPresent
returns-in-ProgramPresent c = sym (ap name_of c.in-ProgramPresent.is)

pub returns-in-ProgramAbsent : goal.returns-in-ProgramAbsent
returns-in-ProgramAbsent c = sym (ap name_of c.in-ProgramAbsent.is)

pub returns-in-LibraryFull : goal.returns-in-LibraryFull
returns-in-LibraryFull c = sym (ap name_of c.in-LibraryFull.is)

pub returns-in-ForeignText : goal.returns-in-ForeignText
returns-in-ForeignText c = sym (ap name_of c.in-ForeignText.is)

pub returns-in-NoQuotient : goal.returns-in-NoQuotient
returns-in-NoQuotient c = sym (ap name_of c.in-NoQuotient.is)

pub returns-in-NoMarkNumber : goal.returns-in-NoMarkNumber
returns-in-NoMarkNumber c = sym (ap name_of c.in-NoMarkNumber.is)

pub returns-in-NoCreatedNumber : goal.returns-in-NoCreatedNumber
returns-in-NoCreatedNumber c = sym (ap name_of c.in-NoCreatedNumber.is)

pub returns-in-TooManyClasses : goal.returns-in-TooManyClasses
returns-in-TooManyClasses c = sym (ap name_of c.in-TooManyClasses.is)

pub returns-in-NamesFull : goal.returns-in-NamesFull
returns-in-NamesFull c = sym (ap name_of c.in-NamesFull.is)

pub returns-in-StoreFull : goal.returns-in-StoreFull
returns-in-StoreFull c = sym (ap name_of c.in-StoreFull.is)

pub returns-in-PrintFull : goal.returns-in-PrintFull
returns-in-PrintFull c = sym (ap name_of c.in-PrintFull.is)

pub returns-in-ScanFull : goal.returns-in-ScanFull
returns-in-ScanFull c = sym (ap name_of c.in-ScanFull.is)
