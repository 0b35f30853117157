use Rattle.std.proofs.Common.{refl, rules, lit<, codes}
use Rattle.signs.proofs.Named.{next_named, mapped}
use Rattle.signs.proofs.read_signs.Goals as goal

pub map-requires : goal.map-requires
map-requires g c = (lit< tt, (lit< tt, (lit< tt, record { at = λ gone left f byte rest y folds next. let named = next_named (codes "0123456789") gone left byte rest refl y next in search rules })))

pub map-requires-2 : goal.map-requires-2
map-requires-2 g c = (lit< tt, (lit< tt, (lit< tt, record { at = λ gone left f byte rest y folds next. let named = next_named (codes "ABCDEFGHIJKLMNOPQRSTUVWXYZ") gone left byte rest refl y next in search rules })))

pub invariant_of-result-clause-digits_are : goal.invariant_of-result-clause-digits_are
invariant_of-result-clause-digits_are g c =
    mapped g.C.Code.meaning.named (codes "0123456789") c.map.result c.map.ensures.items.long (λ k l. let called = (c.map.ensures.items.at k 0 0 l).2 in search rules)

pub invariant_of-result-clause-capitals_are : goal.invariant_of-result-clause-capitals_are
invariant_of-result-clause-capitals_are g c =
    mapped g.C.Code.meaning.named (codes "ABCDEFGHIJKLMNOPQRSTUVWXYZ") c.map-2.result c.map-2.ensures.items.long (λ k l. let called = (c.map-2.ensures.items.at k 0 0 l).2 in search rules)
