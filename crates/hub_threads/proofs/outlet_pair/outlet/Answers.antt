use Rattle.hub_threads.proofs.outlet_pair.outlet.Goals as goal
use Rattle.std.proofs.Common.{rules}

pub returns-clause-ends : goal.returns-clause-ends
returns-clause-ends c = search rules
