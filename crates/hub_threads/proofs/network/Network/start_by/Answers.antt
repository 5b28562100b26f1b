use Rattle.hub_threads.proofs.network.Network.start_by.Goals as goal
use Rattle.std.proofs.Common.{rules}

pub returns-in-Ok-clause-outlet : goal.returns-in-Ok-clause-outlet
returns-in-Ok-clause-outlet g c = search rules
