use Rattle.std.proofs.Common.{◌≡◌, true, refl}
use Rattle.library.specs.Name.{fits_name}
use Rattle.machine.specs.World.{p1}
use Rattle.fetching.proofs.Sought.{copied}
use Rattle.fetching.proofs.copying.copy_program.Goals as goal

pub returns-in-Some-clause-meets : goal.returns-in-Some-clause-meets
returns-in-Some-clause-meets g c n =
    let fits : fits_name (p1 c.args.parameters.now) ≡ true = rw (← c.get-name.ensures, ← c.new.ensures.made) c.if-is_none.ensures in
    rw (fits, ← c.get-name.ensures, ← c.in-Some.ensures.place) (copied g.C.Code.meaning _ _ _ _ _ _ _ (c.in-Some.ensures.found c.in-Some.program refl) c.fetch.result (c.fetch.ensures.meets n))
