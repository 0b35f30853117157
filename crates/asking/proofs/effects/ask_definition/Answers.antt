use Rattle.asking.proofs.effects.ask_definition.Goals as goal

pub returns : goal.returns
returns g c code m v size is =
    c.ask_names_and_store.ensures v (rw (is, ← c.get.ensures) (c.after_define-needs.ensures code m size))
