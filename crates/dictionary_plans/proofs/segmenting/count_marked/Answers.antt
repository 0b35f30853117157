use Rattle.std.proofs.Common.{arith}
use Rattle.machine.specs.Texts.{highest_mark}
use Rattle.machine.specs.Dictionary.{rest_of}
use Rattle.dictionary.specs.Strings.{string_in}
use Rattle.dictionary_plans.specs.Substrings.{substrings}
use Rattle.dictionary_plans.proofs.Numbered.{numbers_suffice}
use Rattle.dictionary_plans.proofs.segmenting.count_marked.Goals as goal

pub mark_substrings-requires-clause-numbers : goal.mark_substrings-requires-clause-numbers
mark_substrings-requires-clause-numbers g c =
    let code = g.C.Code.meaning in
    let s = string_in c.args.string c.args.sources.now.store.now in
    let highest = c.highest_of-highest.ensures in
    rw highest.highest
    (numbers_suffice code (highest_mark code s.body) (substrings c.args.sources.now.parameters.now) 0 (rest_of s) (omega arith) c.requires.numbered)
