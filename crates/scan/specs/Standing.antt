-- The machine's state that stands in texts and a roll. Assumes nothing.
use Rattle.machine.specs.World.{World}
use Rattle.machine.specs.Scan.{State}
use Rattle.scan.specs.declared.texts.ScanTexts.{ScanTexts}
use Rattle.scan.specs.declared.roll.Roll.{Roll}
use Rattle.scan.specs.Texts.{left_of, right_of}

abbrev pub state_in : ScanTexts → Roll → World → State
state_in t q w = record { left = left_of t; right = right_of t; roll = q.entries.items; world = w }
