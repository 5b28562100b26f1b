use Rattle.hub_core.proofs.attach.number_after.Goals as goal
use Rattle.hub_core.proofs.Words.{rules}

pub returns : goal.returns
returns c = search rules
