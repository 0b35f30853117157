use Rattle.std.proofs.Common.{length-take, length-drop, arith}
use Rattle.machine.specs.Texts.{Text}
use Rattle.dictionary_plans.proofs.marking.count_substrings.Goals as goal

pub returns : goal.returns
returns c = omega (arith, length-take {A = Text}, length-drop {A = Text})
