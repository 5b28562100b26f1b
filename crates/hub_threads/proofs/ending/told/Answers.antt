use Rattle.hub_threads.proofs.ending.told.Goals as goal
use Rattle.std.proofs.Common.{rules}

pub returns-clause-token : goal.returns-clause-token
returns-clause-token g c = search rules
