use Rattle.scan.proofs.rules.follow.Goals as goal

pub returns-in-OpenPassive-clause-goes : goal.returns-in-OpenPassive-clause-goes
returns-in-OpenPassive-clause-goes g c = rw c.in-OpenPassive.is c.enter.ensures.goes

pub returns-in-OpenActive-clause-goes : goal.returns-in-OpenActive-clause-goes
returns-in-OpenActive-clause-goes g c = rw c.in-OpenActive.is c.enter-in-OpenActive.ensures.goes

pub returns-in-Separator-clause-goes : goal.returns-in-Separator-clause-goes
returns-in-Separator-clause-goes g c = rw c.in-Separator.is c.enter-in-Separator.ensures.goes
