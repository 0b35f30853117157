use Rattle.fetching.proofs.Sought.{retrieve_fetches}
use Rattle.fetching.proofs.retrieving.retrieve_named.Goals as goal

pub returns-in-Some-clause-meets : goal.returns-in-Some-clause-meets
returns-in-Some-clause-meets g c n = rw (← c.in-Some.ensures.place, retrieve_fetches) (c.fetch.ensures.meets n)
