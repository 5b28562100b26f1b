use Rattle.hub_core.proofs.attach.admit.Goals as goal
use Rattle.hub_core.proofs.Words.{rules}

pub returns-in-Ok-clause-ok : goal.returns-in-Ok-clause-ok
returns-in-Ok-clause-ok c = search rules
