use Rattle.std.proofs.Common.{◌+◌, nat_le, length-take, sym, ap₂, ◌∙◌, arith}
use Rattle.machine.specs.Texts.{Text, highest_mark}
use Rattle.machine.specs.Dictionary.{rest_of}
use Rattle.dictionary.specs.Strings.{string_in}
use Rattle.dictionary_plans.specs.Substrings.{substrings}
use Rattle.dictionary_plans.proofs.Numbered.{numbered_is}
use Rattle.dictionary_plans.proofs.segmenting.is_numbered.Goals as goal

pub overflow_add-result : goal.overflow_add-result
overflow_add-result g c = omega (arith, length-take {A = Text})

pub returns : goal.returns
returns g c =
    let code = g.C.Code.meaning in
    let s = string_in c.args.string c.args.sources.now.store.now in
    let highest = c.highest_of.ensures in
    ap₂ (λ h n. nat_le (h + n) 62) highest.highest c.count_substrings.ensures
    ∙ sym (numbered_is code (highest_mark code s.body) (substrings c.args.sources.now.parameters.now) 0 (rest_of s) (omega arith))
