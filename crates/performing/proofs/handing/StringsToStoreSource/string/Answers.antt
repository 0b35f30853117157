use Rattle.std.proofs.Common.{◌<◌, sym, subst}
use Rattle.performing.proofs.Named.{named_by}
use Rattle.performing.proofs.handing.StringsToStoreSource.string.Goals as goal

pub returns : goal.returns
returns g c =
    rw (c.body-body.ensures, c.get-name.ensures) (sym (named_by _ c.args.self.now.parameters.now c.args.string (subst (λ n. c.args.string < n) c.count.ensures c.if-string-count.false)))
