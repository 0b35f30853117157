use Rattle.std.proofs.Common.{ap}
use Rattle.std.specs.Option.{option_map}
use Rattle.library.specs.Meaning.{Program, program_at}
use Rattle.library.specs.Views.{program_viewed}
use Rattle.exchange.proofs.InTurn.{unfit, fit, stored_one}
use Rattle.exchange.proofs.copying.store_program.Goals as goal

pub returns-in_err-name : goal.returns-in_err-name
returns-in_err-name g c =
    unfit (g.R.Reader.meaning c.args.from.now).programs c.args.program c.in-Some.program.name.now _ _ _ (g.R.Reader.lawful c.args.from.now) (ap (option_map (λ (p : Program). p.name)) c.in-Some.ensures.shows) c.in_err-name.ensures

pub returns : goal.returns
returns g c =
    stored_one _ _ (program_at (g.R.Reader.meaning c.args.from.now).programs c.args.program) (program_viewed g.R.Reader.meaning c.in-Some.program) _ _ (fit _ _ _ _ c.in_ok-name.ensures) c.in-Some.ensures.shows c.store.ensures.refusal c.store.ensures.after
