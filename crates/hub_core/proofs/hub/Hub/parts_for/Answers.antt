use Rattle.hub_core.proofs.hub.Hub.parts_for.Goals as goal
use Rattle.hub_core.proofs.Words.{rules}

pub returns-clause-ok : goal.returns-clause-ok
returns-clause-ok g c = search rules
