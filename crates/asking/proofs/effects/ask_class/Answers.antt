use Rattle.asking.proofs.effects.ask_class.Goals as goal

pub returns : goal.returns
returns g c members v is =
    c.ask_store.ensures v (rw (is, ← c.get.ensures) (c.after_define_class-needs.ensures members).bytes)
