use Rattle.hub_threads.proofs.ending.end_by.Goals as goal

pub returns-clause-whole : goal.returns-clause-whole
returns-clause-whole g c = c.told.ensures.whole _ _ c.join.ensures.0
