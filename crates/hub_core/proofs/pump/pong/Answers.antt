use Rattle.hub_core.proofs.pump.pong.Goals as goal
use Rattle.hub_core.proofs.Words.{rules}

pub returns : goal.returns
returns c = search rules
