-- How much of the right text a rule asks for. Assumes nothing.
use Rattle.std.specs.Prelude.{ℕ}
use Rattle.machine.specs.declared.rule.Rule.{Rule}
use Rattle.machine.specs.declared.rule.Rule.TheVariants.{EndOfLine, Escape, OpenPassive, OpenActive, Bracket, Separator, Close, Other}

-- the bytes that a rule drops or moves, where its front is all that there is
abbrev pub width : Rule → ℕ
width EndOfLine = 1
width Escape = 1
width OpenPassive = 3
width OpenActive = 2
width Bracket = 1
width Separator = 1
width Close = 1
width Other = 1
