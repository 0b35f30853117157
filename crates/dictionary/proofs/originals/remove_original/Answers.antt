use Rattle.std.proofs.Common.{set, false, sym, ap, ◌∙◌}
use Rattle.dictionary.specs.Meant.{stands}
use Rattle.dictionary.proofs.Flags.{place_is, one_goes, none_goes}
use Rattle.dictionary.proofs.originals.remove_original.Goals as goal

pub returns-in-Some : goal.returns-in-Some
returns-in-Some g c f =
    ap (λ k. stands (set c.args.originals.now k false) f) (place_is c.in-Some.function c.place_of.result c.place_of.ensures.differ c.place_of.ensures.place)
    ∙ one_goes g.C.Code.meaning g.C.Code.laws c.args.name.now c.args.originals.now c.in-Some.function (sym c.find_built_in.ensures ∙ c.in-Some.is) f

pub returns-in_default : goal.returns-in_default
returns-in_default g c f =
    none_goes g.C.Code.meaning c.args.name.now c.args.originals.now (sym c.find_built_in.ensures ∙ c.in_default.is) f
